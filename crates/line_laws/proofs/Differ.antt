-- Two records that fit and have one line show the same.
use Rattle.std.proofs.Common.{◌≡◌, Some, sym, ◌∙◌, ap}
use Rattle.std.specs.Prelude.{codes}
use Rattle.std.proofs.lemmas.List.{append_cancel_right}
use Rattle.record_lines.specs.declared.line.Line.{Line}
use Rattle.record_lines.specs.Reading.{line_read}
use Rattle.record_lines.specs.Writing.{line_text}
use Rattle.record_lines.proofs.ReadLaws.{line_back}
use Rattle.world_model.specs.Text.{record_text, line_of}
use Rattle.line_laws.specs.Shown.{LinesDiffer}
use Rattle.line_laws.proofs.Texts.{lines_show}

some_is : (l m : Line) → Some l ≡ Some m → l ≡ m
some_is l m e = cc

pub lines_differ : LinesDiffer
unfolding line_of
lines_differ r s l m a b e =
    let same : line_text l ≡ line_text m = sym (lines_show r l a.0) ∙ (append_cancel_right (record_text r) (record_text s) (codes "\n") e ∙ lines_show s m b.0) in
    some_is l m (sym (line_back l a.1) ∙ (ap line_read same ∙ line_back m b.1))
