-- A client that is made of a votes word votes just as it says. And a safe run speaks of all groups, for any number, so
-- its laws are named here.
use Rattle.std.proofs.Common.{refl}
use Rattle.net_script.proofs.SafeLaws.{every_play_is_safe, every_kept_play_is_safe}
use Rattle.net_script.proofs.PlaySafeLaws.{always}
use Rattle.net_script.proofs.WordedLaws.{says_done, says_kept, says_front, unbegun_past, unbegun_text}
use Rattle.net_script.proofs.script.play.Goals.{in-Ok, in-Err}
use Rattle.net_script.proofs.script.play.Goals as goal

pub returns-after-play_as-clause-done : goal.returns-after-play_as-clause-done
returns-after-play_as-clause-done g c = elim c.match-play_as.branch [
  | in-Ok w ↦ rw w.result-is (says_done (λ items. refl) w.in-Ok.field-0 c.args.kinds c.args.limit c.args.script.now _ _ c.if-script.true (w.in-Ok.ensures.played c.if-script.true))
  | in-Err w ↦ rw w.result-is tt
]

pub returns-after-play_as-clause-kept : goal.returns-after-play_as-clause-kept
returns-after-play_as-clause-kept g c n is = elim c.match-play_as.branch [
  | in-Ok w ↦ let ok = rw w.result-is at is in absurd (cc)
  | in-Err w ↦
      let err = rw w.result-is at is in
      says_kept (λ items. refl) w.in-Err.e n c.args.kinds c.args.limit c.args.script.now _ _ (cc) c.if-script.true (w.in-Err.ensures.played c.if-script.true)
]

pub returns-after-play_as-clause-front : goal.returns-after-play_as-clause-front
returns-after-play_as-clause-front g c = says_front (λ items. refl) c.play_as.result c.args.kinds c.args.limit c.args.script.now _ _ c.if-script.true (c.play_as.ensures.played c.if-script.true)

pub returns-after-play_as-clause-safe : goal.returns-after-play_as-clause-safe
returns-after-play_as-clause-safe g c = always c.match-play_as.result (every_play_is_safe c.args.script.now)

pub returns-after-play_as-clause-safe_front : goal.returns-after-play_as-clause-safe_front
returns-after-play_as-clause-safe_front g c = every_kept_play_is_safe c.args.limit c.args.script.now

-- ---- a script without a `begin` line

pub returns-else-script-clause-done : goal.returns-else-script-clause-done
returns-else-script-clause-done g c = (unbegun_past c.args.limit c.args.script.now c.if-script.false, unbegun_text c.args.kinds _ c.args.script.now c.if-script.false)

pub returns-else-script-clause-safe : goal.returns-else-script-clause-safe
returns-else-script-clause-safe g c = every_play_is_safe c.args.script.now

pub returns-else-script-clause-safe_front : goal.returns-else-script-clause-safe_front
returns-else-script-clause-safe_front g c = every_kept_play_is_safe c.args.limit c.args.script.now
