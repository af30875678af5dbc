use Rattle.std.proofs.Common.{ℕ, List, [], ◌∷◌, ◌++◌, sym, ◌∙◌, ap, append_assoc, take}
use Rattle.transcript.specs.Kinds.{kinds_text}
use Rattle.net_script.proofs.TextLaws.{text_more}
use Rattle.net_script.proofs.records.put_records.Goals as goal

pub loop-happened-preserved : goal.loop-happened-preserved
loop-happened-preserved c =
    let line : List ℕ = kinds_text c.args.kinds (c.happened-item.result ∷ []) in
    c.in_ok-put_record.ensures
    ∙ (ap (λ (t : List ℕ). t ++ line) c.loop-happened.invariant
    ∙ (append_assoc c.args.text.now.items (kinds_text c.args.kinds (take c.loop-happened.happened-index c.args.records.now)) line
    ∙ ap (λ (t : List ℕ). c.args.text.now.items ++ t) (sym (text_more c.args.kinds c.loop-happened.happened-index c.happened-item.result c.args.records.now c.loop-happened-test.true c.happened-item.is))))
