-- The Down broke off.
use Rattle.std.proofs.Common.{ap, ◌∙◌, sym}
use Rattle.link_use.proofs.SendLaws.{on_err}
use Rattle.remote_session.specs.Daemon.{seen_up}
use Rattle.daemon_run.specs.Doing.{BringBreaks}
use Rattle.daemon_run.proofs.RemoteLaws.{front_at, ended_broke, full_broke, known_broke, down_broke}
use Rattle.daemon_run.proofs.running.Running.bring.Goals as goal
use Rattle.daemon_run.proofs.running.Running.bring.Goals.{in-Ended, in-Full, in-Known, in-Call+in_ok-carry_key_line-in-Call}

pub returns-in_err-send_down-clause-broke : goal.returns-in_err-send_down-clause-broke
returns-in_err-send_down-clause-broke g c =
    let broke : BringBreaks c.args.self.now (g.O.Outside.told c.args.outside.now) (g.O.Outside.told c.send_down.new.outside) c.args.network c.args.message.now = elim c.match-branch-2.branch [
      | in-Ended w ↦
          ended_broke c.args.self.now c.take_up.new.self w.in-Ended.key c.args.network c.args.message.now _ _ (sym (ap seen_up w.in-Ended.is) ∙ c.in_ok-take_up.ensures.seen) c.in_ok-take_up.ensures.taken
          (front_at c.take_up.new.self c.match-branch-2.self w.in-Ended.key c.match-branch-2.key c.args.network _ _ _ w.self-is w.key-is (ap g.O.Outside.told w.outside-is) c.in_err-send_down.ensures.broke)
      | in-Full w ↦
          full_broke c.args.self.now c.take_up.new.self w.in-Full.key _ c.args.network c.args.message.now _ _ (sym (ap seen_up w.in-Full.is) ∙ c.in_ok-take_up.ensures.seen) c.in_ok-take_up.ensures.taken
          (front_at c.take_up.new.self c.match-branch-2.self w.in-Full.key c.match-branch-2.key c.args.network _ _ _ w.self-is w.key-is (ap g.O.Outside.told w.outside-is) c.in_err-send_down.ensures.broke)
      | in-Known w ↦
          known_broke c.args.self.now c.take_up.new.self w.in-Known.key c.args.network c.args.message.now _ _ (sym (ap seen_up w.in-Known.is) ∙ c.in_ok-take_up.ensures.seen) c.in_ok-take_up.ensures.taken
          (front_at c.take_up.new.self c.match-branch-2.self w.in-Known.key c.match-branch-2.key c.args.network _ _ _ w.self-is w.key-is (ap g.O.Outside.told w.outside-is) c.in_err-send_down.ensures.broke)
      | in-Call+in_ok-carry_key_line-in-Call w ↦
          down_broke c.args.self.now c.take_up.new.self w.carry_key_line.new.self w.in-Call.key c.args.network w.in-Call.line.now c.args.message.now _ _ _ (sym (ap seen_up w.in-Call.is) ∙ c.in_ok-take_up.ensures.seen) c.in_ok-take_up.ensures.taken w.in_ok-carry_key_line-in-Call.ensures.done
          (front_at w.carry_key_line.new.self c.match-branch-2.self w.in-Call.key c.match-branch-2.key c.args.network _ _ _ w.self-is w.key-is (ap g.O.Outside.told w.outside-is) c.in_err-send_down.ensures.broke)
    ] in
    on_err c.from_residual-in_err-send_down.result broke
