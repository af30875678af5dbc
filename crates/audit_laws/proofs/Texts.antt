-- The text of records is read line by line.
use Rattle.std.proofs.Common.{◌≡◌, ℕ, ◌+◌, false, List, [], ◌∷◌, ◌++◌, length, Option, Some, None, refl, sym, ◌∙◌, ap, subst, append_assoc, arith}
use Rattle.std.specs.Prelude.{codes}
use Rattle.rsct_packet.specs.Lists.{is_empty, reverse_onto}
use Rattle.client_callbacks.specs.declared.told.Told.{Told}
use Rattle.client_callbacks.specs.declared.told.Told.TheVariants as told
use Rattle.value_words.specs.Words.{split_on}
use Rattle.value_words.proofs.SplitLaws.{some_piece}
use Rattle.word_laws.proofs.Pieces.{split_first}
use Rattle.record_lines.specs.declared.line.Line.{Line}
use Rattle.record_lines.specs.declared.line.Line.TheVariants as line
use Rattle.record_lines.specs.declared.line.Note.{Note}
use Rattle.record_lines.specs.Reading.{line_read}
use Rattle.record_lines.specs.Writing.{line_text}
use Rattle.record_lines.proofs.ReadLaws.{line_back}
use Rattle.node_state.specs.declared.happened.Happened.{Happened}
use Rattle.node_state.specs.declared.happened.Happened.TheVariants as happened
use Rattle.world_model.specs.Text.{record_text, line_of}
use Rattle.line_laws.specs.Shown.{IsNote, ShowsWhole}
use Rattle.line_laws.proofs.Texts.{lines_show}
use Rattle.run_audit.specs.declared.broken.Verdict.TheVariants.{Seen}
use Rattle.run_audit.specs.declared.broken.Judged.TheVariants.{NoRecord, Is}
use Rattle.run_audit.specs.Audit.{judged, judged_text}
use Rattle.run_audit.specs.Table.{verdict_of}
use Rattle.world_safety.proofs.Turned.{onto_none}
use Rattle.audit_laws.specs.Law.{AreShown, text_of, TextsAreSeen}
use Rattle.audit_laws.specs.Lines.{note_of, status_in, status_of, shown, lines}
use Rattle.audit_laws.specs.Records.{OfRun}
use Rattle.audit_laws.proofs.Feeds.{line_lacks_feed}
use Rattle.audit_laws.proofs.Judging.{lines_are_seen}

-- ---- what fits and is shown is the record's line

note_is : (t : Told) (m : Note) → IsNote t m → note_of t ≡ m
unfolding note_of
note_is (told.Note group members value) m e = sym e
note_is (told.Hosts view nodes) m e = sym e
note_is (told.Refused p r why) m e = absurd e

-- the line of a record that shows what fits is read
read_back : (r : Happened) (l : Line) → ShowsWhole r l → line_read (record_text r) ≡ Some l
read_back r l k = ap line_read (lines_show r l k.0) ∙ line_back l k.1

shown_is : (r : Happened) (l : Line) → ShowsWhole r l → l ≡ shown r
unfolding shown status_of status_in record_text
shown_is (happened.Up n j) l k = k.0
shown_is (happened.Down n) l k = k.0
shown_is (happened.Ring n network ring members m) l k = k.0
shown_is (happened.In n v ms) l k = k.0
shown_is (happened.Base n v g old len s) l k = k.0
shown_is (happened.Put n v g i e) l k = k.0
shown_is (happened.Heard p v g i e ms value) l k = k.0
shown_is (happened.Cast p proto phase vote value message) l k = k.0
shown_is (happened.Asked p r g x) l k = k.0
shown_is (happened.Told p r why) l k = k.0
shown_is (happened.Noted n c v place t) l k = k.0.2 ∙ ap (λ m. line.Noted n c v place m) (sym (note_is t k.0.0 k.0.1))
shown_is (happened.Refused n c f) l k = k.0
shown_is (happened.Shown n bytes) l k =
    let read : line_read (record_text (happened.Shown n bytes)) ≡ Some (line.Show n k.0.0) = read_back (happened.Shown n bytes) l k ∙ ap (λ z. Some z) k.0.2 in
    k.0.2 ∙ ap (λ s. line.Show n s) (sym (ap status_in read))

-- ---- cutting at line feeds

judged_step : (b : List ℕ) (ps : List (List ℕ)) (l : Line) (ls : List Line) → is_empty ps ≡ false → line_read b ≡ Some l → judged (b ∷ ps) ls ≡ judged ps (l ∷ ls)
unfolding judged
judged_step b [] l ls e h = absurd cc
judged_step b (p ∷ ps) l ls e h = ap (λ (o : Option Line). elim o [ None ↦ NoRecord (length ls + 1) | Some x ↦ judged (p ∷ ps) (x ∷ ls) ]) h

-- the text of a line and what comes then
cut_first : (r : Happened) (l : Line) (rest : List ℕ) → ShowsWhole r l → split_on 10 (line_of r ++ rest) ≡ line_text l ∷ split_on 10 rest
unfolding line_of
cut_first r l rest k =
    ap (split_on 10) (append_assoc (record_text r) (codes "\n") rest ∙ ap (λ z. z ++ 10 ∷ rest) (lines_show r l k.0)) ∙ split_first 10 (line_text l) rest (line_lacks_feed l k.1)

judged_on : (rs : List Happened) (ls : List Line) (bs : List Happened) → AreShown rs ls → judged (split_on 10 (text_of rs)) (lines bs) ≡ Is (verdict_of (lines (reverse_onto rs bs)))
unfolding lines split_on judged
judged_on [] [] bs k = refl
judged_on [] (l ∷ ls) bs k = absurd k
judged_on (r ∷ rs) [] bs k = absurd k
judged_on (r ∷ rs) (l ∷ ls) bs k =
    ap (λ ps. judged ps (lines bs)) (cut_first r l (text_of rs) k.0)
    ∙ (judged_step (line_text l) (split_on 10 (text_of rs)) l (lines bs) (some_piece 10 (text_of rs)) (line_back l k.0.1)
    ∙ (ap (λ z. judged (split_on 10 (text_of rs)) (z ∷ lines bs)) (shown_is r l k.0) ∙ judged_on rs ls (r ∷ bs) k.1))

reversed_length : (rs bs : List Happened) → length (reverse_onto rs bs) ≡ length rs + length bs
reversed_length [] bs = omega arith
reversed_length (r ∷ rs) bs = let k : length (reverse_onto rs (r ∷ bs)) ≡ length rs + length (r ∷ bs) = reversed_length rs (r ∷ bs) in omega arith

pub texts_are_seen : TextsAreSeen
unfolding lines judged_text
texts_are_seen rs k ls h =
    let run : OfRun (reverse_onto rs []) = subst OfRun (sym (onto_none rs)) k in
    let count : length (reverse_onto rs []) ≡ length rs = (let e : length (reverse_onto rs []) ≡ length rs + 0 = reversed_length rs [] in omega arith) in
    judged_on rs ls [] h ∙ (ap (λ v. Is v) (lines_are_seen (reverse_onto rs []) run) ∙ ap (λ i. Is (Seen i)) count)
