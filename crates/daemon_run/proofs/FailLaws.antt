-- Writes that failed: what was done before them, and what was to be sent then; and faults that are no pause.
use Rattle.std.proofs.Common.{◌≡◌, ◌≢◌, false, true, ◌==◌, List, [], ◌∷◌, ◌++◌, length, map, IsErr, IsErrAnd, refl, sym, ◌∙◌, ap, subst, append_assoc}
use Rattle.std.specs.Prelude.{ℕ, Result, Ok, Err, OnOk, OnErr, IfErr}
use Rattle.std.proofs.lemmas.List.{map-append}
use Rattle.hags_io.specs.Deeds.{Wrote}
use Rattle.hags_io.specs.Telling.{Telling, Did}
use Rattle.link_use.specs.declared.stop.Stop.{Stop}
use Rattle.link_use.specs.declared.stop.Stop.TheVariants as stop
use Rattle.link_use.specs.Stops.{StopsBy, StopsDaemon}
use Rattle.node_state.specs.declared.happened.Happened.{Happened}
use Rattle.daemon_model.specs.Daemon.{records_text}
use Rattle.daemon_model.specs.Sent.{Exchange}
use Rattle.daemon_model.specs.Doings.{Doing, Exchanges, Writes, writes, Made}
use Rattle.daemon_model.proofs.MadeLaws.{made_nothing, made_on}
use Rattle.daemon_run.specs.Doing.{WriteFails}
use Rattle.daemon_run.specs.Turning.{StopsTurn}

-- what comes of a write that failed, by what came of it below
pub unwritten_on : {T P Q : Type 0} (r : Result T Stop) → (P → Q) → IfErr r (λ f. f ≡ stop.WriteFault → P) → IfErr r (λ f. f ≡ stop.WriteFault → Q)
unwritten_on (Ok x) k h = tt
unwritten_on (Err f) k h = λ is. k (h is)

-- or from the fault that `?` hands on
pub unwritten_by : {T P : Type 0} (r : Result T Stop) (f : Stop) → IsErr r × IsErrAnd r (λ e. e ≡ f) → (f ≡ stop.WriteFault → P) → IfErr r (λ e. e ≡ stop.WriteFault → P)
unwritten_by (Ok x) f h k = tt
unwritten_by (Err e) f h k = λ is. k (sym h.1 ∙ is)

-- no step stops by a pause
pub no_pause : {T : Type 0} (P : Type 0) (t : Telling) (r : Result T Stop) → IfErr r (StopsBy t) → IfErr r (λ f. f ≡ stop.Paused → P)
no_pause P t (Ok x) h = tt
no_pause P t (Err f) h = λ is. absurd (subst (StopsBy t) is h)

-- what holds of each fault holds of one that is no pause
pub broke_on : {T P Q : Type 0} (r : Result T Stop) → (P → Q) → OnErr r P → IfErr r (λ f. f ≢ stop.Paused → Q)
broke_on (Ok x) k h = tt
broke_on (Err f) k h = λ other. k h

-- or of all of them
pub broke_all : {T P : Type 0} (r : Result T Stop) → P → IfErr r (λ f. f ≢ stop.Paused → P)
broke_all (Ok x) p = tt
broke_all (Err f) p = λ other. p

-- what was done, by what was done in it
pub done_on : {T P Q : Type 0} (r : Result T Stop) → (P → Q) → OnOk r P → OnOk r Q
done_on (Ok x) k h = k h
done_on (Err f) k h = tt

-- what stops a step stops its turn
pub stops_turn : (t : Telling) (e : Stop) → StopsBy t e → StopsTurn t e
stops_turn t stop.NoMemory h = h
stops_turn t stop.WriteFault h = h
stops_turn t stop.LinkFault h = h
stops_turn t stop.NoReply h = h
stops_turn t stop.SessionLost h = h
stops_turn t stop.DaemonFull h = h
stops_turn t stop.Paused h = tt

pub stops_on : {T : Type 0} (t : Telling) (r : Result T Stop) → IfErr r (StopsBy t) → IfErr r (StopsTurn t)
stops_on t (Ok x) h = tt
stops_on t (Err f) h = stops_turn t f h

-- and what stops a turn its daemon
pub turn_stops_daemon : (t : Telling) (e : Stop) → StopsTurn t e → StopsDaemon e
turn_stops_daemon t stop.NoMemory h = tt
turn_stops_daemon t stop.WriteFault h = tt
turn_stops_daemon t stop.LinkFault h = tt
turn_stops_daemon t stop.NoReply h = absurd h
turn_stops_daemon t stop.SessionLost h = absurd h
turn_stops_daemon t stop.DaemonFull h = absurd h
turn_stops_daemon t stop.Paused h = tt

-- the fault that `?` handed on
pub fault_is : {T : Type 0} (r : Result T Stop) (f s : Stop) → IsErr r × IsErrAnd r (λ e. e ≡ f) → f ≡ s → r ≡ Err s
fault_is (Ok x) f s h is = absurd (let z : false ≡ true = h.0 in cc)
fault_is (Err e) f s h is = ap Err (h.1 ∙ is)

pub fault_by : {T P : Type 0} (r : Result T Stop) (f s : Stop) → IsErr r × IsErrAnd r (λ e. e ≡ f) → (f ≡ s → P) → r ≡ Err s → P
fault_by (Ok x) f s h k is = absurd cc
fault_by (Err e) f s h k is = let same : e ≡ s = cc in k (sym h.1 ∙ same)

pub write_fails : (t u : Telling) (rs : List Happened) (text : List ℕ) → (length rs == 0) ≡ false → text ≡ records_text rs → Did t u (Wrote text false ∷ []) → WriteFails t u (writes rs)
write_fails t u [] text e is h = absurd cc
write_fails t u (r ∷ rs) text e is h = record { before = []; records = r ∷ rs; sends = []; whole = refl; reached = t; made = made_nothing t; failed = rw is at h }

-- after more was done
pub fails_on : (t u v : Telling) (xs ys : List Doing) → Made t u xs → WriteFails u v ys → WriteFails t v (xs ++ ys)
fails_on t u v xs ys p q = record {
  before = xs ++ q.before;
  records = q.records;
  sends = q.sends;
  whole = append_assoc xs q.before (Writes q.records ∷ map Exchanges q.sends) ∙ ap (λ x. xs ++ x) q.whole;
  reached = q.reached;
  made = made_on t u q.reached xs q.before p q.made;
  failed = q.failed;
}

-- and more was to be sent
pub fails_more : (t u : Telling) (xs : List Doing) (more : List Exchange) → WriteFails t u xs → WriteFails t u (xs ++ map Exchanges more)
fails_more t u xs more p = record {
  before = p.before;
  records = p.records;
  sends = p.sends ++ more;
  whole =
      ap (λ x. p.before ++ Writes p.records ∷ x) (map-append Exchanges p.sends more)
      ∙ (sym (append_assoc p.before (Writes p.records ∷ map Exchanges p.sends) (map Exchanges more)) ∙ ap (λ x. x ++ map Exchanges more) p.whole);
  reached = p.reached;
  made = p.made;
  failed = p.failed;
}
