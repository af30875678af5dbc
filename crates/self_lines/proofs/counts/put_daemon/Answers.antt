-- Each piece behind those before.
use Rattle.std.proofs.Common.{◌≡◌, ℕ, List, ◌++◌, ◌∙◌, append_assoc}
use Rattle.std.specs.Prelude.{codes, decimal}
use Rattle.std.proofs.lemmas.Result.{on_ok_weaker}
use Rattle.value_words.specs.Wording.{word, member_text}
use Rattle.daemon_model.specs.declared.counts.Counts.{Counts}
use Rattle.daemon_model.specs.SelfLines.{version_text, digest_text, daemon_text}
use Rattle.self_lines.proofs.LineLaws.{one_more, two_more, four_more}
use Rattle.self_lines.proofs.counts.put_daemon.Goals as goal

pub returns : goal.returns
unfolding daemon_text
returns c =
    let n : Counts = c.args.counts in
    let base : List ℕ = c.args.out.now.items in
    let node : List ℕ = codes "hagsd " ++ word (member_text c.args.me) in
    let at_node : c.put_node.new.out.items ≡ base ++ node = c.in_ok-put_node.ensures ∙ append_assoc base (codes "hagsd ") (word (member_text c.args.me)) in
    let about : List ℕ = node ++ codes "version=" ++ word (version_text c.args.about.version) ++ codes "settings=" ++ word (digest_text c.args.about.settings) in
    let at_about : c.put_about.new.out.items ≡ base ++ about =
    four_more base node (codes "version=") (word (version_text c.args.about.version)) (codes "settings=") (word (digest_text c.args.about.settings)) _ _ at_node c.in_ok-put_about.ensures in
    let turns : List ℕ = about ++ codes "turns=" ++ word (decimal n.receives.turns) in
    let at_turns : c.put_counted.new.out.items ≡ base ++ turns = two_more base about (codes "turns=") (word (decimal n.receives.turns)) _ _ at_about c.in_ok-put_counted.ensures in
    let ticks : List ℕ = turns ++ codes "ticks=" ++ word (decimal n.ticks) in
    let at_ticks : c.put_counted-2.new.out.items ≡ base ++ ticks = two_more base turns (codes "ticks=") (word (decimal n.ticks)) _ _ at_turns c.in_ok-put_counted-2.ensures in
    let received : List ℕ = ticks ++ codes "received=" ++ word (decimal n.receives.received) in
    let at_received : c.put_counted-3.new.out.items ≡ base ++ received = two_more base ticks (codes "received=") (word (decimal n.receives.received)) _ _ at_ticks c.in_ok-put_counted-3.ensures in
    let strays : List ℕ = received ++ codes "strays=" ++ word (decimal n.receives.strays) in
    let at_strays : c.put_counted-4.new.out.items ≡ base ++ strays = two_more base received (codes "strays=") (word (decimal n.receives.strays)) _ _ at_received c.in_ok-put_counted-4.ensures in
    let sent : List ℕ = strays ++ codes "sent=" ++ word (decimal n.sent) in
    let at_sent : c.put_counted-5.new.out.items ≡ base ++ sent = two_more base strays (codes "sent=") (word (decimal n.sent)) _ _ at_strays c.in_ok-put_counted-5.ensures in
    let failed : List ℕ = sent ++ codes "failed=" ++ word (decimal n.receives.failed) in
    let at_failed : c.put_counted-6.new.out.items ≡ base ++ failed = two_more base sent (codes "failed=") (word (decimal n.receives.failed)) _ _ at_sent c.in_ok-put_counted-6.ensures in
    let keys : List ℕ = failed ++ codes "keys=" ++ word (decimal n.keys) ++ codes "ended=" ++ decimal n.ended in
    let at_keys : c.put_keys.new.out.items ≡ base ++ keys = four_more base failed (codes "keys=") (word (decimal n.keys)) (codes "ended=") (decimal n.ended) _ _ at_failed c.in_ok-put_keys.ensures in
    let whole : c.put_text.new.out.items ≡ c.put_keys.new.out.items ++ codes "\n" → c.put_text.new.out.items ≡ base ++ daemon_text c.args.me c.args.about n =
    λ last. one_more base keys (codes "\n") _ _ at_keys last in
    on_ok_weaker c.put_text.result whole c.put_text.ensures
