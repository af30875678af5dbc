-- What logs have of a run's records are such records too.
use Rattle.std.proofs.Common.{◌≡◌, true, List, [], ◌∷◌, sym, ◌∙◌}
use Rattle.std.specs.Prelude.{reverse}
use Rattle.node_state.specs.declared.happened.Happened.{Happened}
use Rattle.node_state.specs.declared.happened.Happened.TheVariants as happened
use Rattle.run_safety.specs.Past.{records_of}
use Rattle.step_refinement.specs.Tied.{opening_of}
use Rattle.step_refinement.proofs.RunLaw.{reached_runs}
use Rattle.log_laws.specs.Logs.{is_up, LivesAreLogged, Logs, Nothing, Writes, LeavesOut, Upright, AllUpright}
use Rattle.log_laws.proofs.Groups.{bases_come}
use Rattle.log_laws.proofs.Kept.{was_recorded, work_logged, same_puts, same_view_now, same_up}
use Rattle.log_laws.proofs.Law.{logs_are_seen, rings_are_seen}
use Rattle.log_laws.proofs.Past.{view_up}
use Rattle.audit_laws.specs.Law.{LogsAreAudited, LogTextsAreSeen}
use Rattle.audit_laws.specs.Records.{InTurn, AllInTurn, BasesAreKnown}
use Rattle.audit_laws.proofs.Runs.{runs_are_audited}
use Rattle.audit_laws.proofs.Texts.{texts_are_seen}

turn_upright : (rs : List Happened) → AllInTurn rs → AllUpright rs
turn_upright [] k = tt
turn_upright (r ∷ rs) k = (one r k.0, turn_upright rs k.1)
  where
    one : (r : Happened) → InTurn rs r → Upright rs r
    one (happened.In n v ms) t = t
    one (happened.Base n v g old len s) t = t.0
    one _ t = tt

logged_turn : (rs ls : List Happened) → Logs rs ls → LivesAreLogged rs ls → AllUpright rs → (r : Happened) → InTurn rs r → InTurn ls r
logged_turn rs ls k a up (happened.In n v ms) t = sym (same_up rs ls k n t (a n t)) ∙ t
logged_turn rs ls k a up (happened.Base n v g old len s) t =
    let is : is_up n rs ≡ true = view_up n v rs up t.0 in
    (sym (same_view_now rs ls k n is (a n is)) ∙ t.0, sym (same_puts rs ls k n v g) ∙ t.1)
logged_turn rs ls k a up _ t = tt

logged_turns : (rs ls : List Happened) → Logs rs ls → AllInTurn rs → AllInTurn ls
logged_turns _ _ Nothing t = tt
logged_turns _ _ (Writes r rs ls k a) t = (logged_turn rs ls k a (turn_upright rs t.1) r t.0, logged_turns rs ls k t.1)
logged_turns _ _ (LeavesOut r rs ls k o) t = logged_turns rs ls k t.1

logged_bases : (rs ls : List Happened) → Logs rs ls → BasesAreKnown rs → BasesAreKnown ls
logged_bases rs ls k known n m v g i e t len x put base =
    work_logged rs ls k (happened.Base n v g t len x) tt (known n m v g i e t len x (was_recorded rs ls k (happened.Put n v g i e) put) (was_recorded rs ls k (happened.Base m v g t len x) base))

pub logs_are_audited : LogsAreAudited
logs_are_audited rs ls k run come =
    record {
      seen = logs_are_seen rs ls k run.seen (turn_upright rs run.in_turn) come;
      rings = λ net. rings_are_seen net rs ls k (run.rings net);
      in_turn = logged_turns rs ls k run.in_turn;
      known = logged_bases rs ls k run.known;
    }

pub log_texts_are_seen : LogTextsAreSeen
log_texts_are_seen c w k fit rs l =
    texts_are_seen rs (logs_are_audited (records_of w.before) (reverse rs) l (runs_are_audited c w k fit) (bases_come (opening_of w.config) w.before (reached_runs c w k).0))
