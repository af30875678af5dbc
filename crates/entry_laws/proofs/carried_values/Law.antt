-- Each scene that events lead to.
use Rattle.std.proofs.Common.{◌≡◌, ℕ, List, [], ◌∷◌, Some, refl, sym, subst, inl, inr}
use Rattle.std.specs.Prelude.{reverse}
use Rattle.rsct_packet.specs.declared.ids.ViewId.{ViewId}
use Rattle.rsct_packet.specs.Search.{Has}
use Rattle.proposal_core.specs.declared.entry.Entry.{Entry}
use Rattle.session_state.specs.declared.state.KeptBallot.{KeptBallot}
use Rattle.view_state.specs.Views.{views_new}
use Rattle.node_state.specs.declared.config.Config.{Config}
use Rattle.node_state.specs.declared.happened.Happened.{Happened}
use Rattle.node_state.specs.declared.happened.Happened.TheVariants as happened
use Rattle.node_state.specs.declared.packet.Packet.{Packet}
use Rattle.node_state.specs.declared.state.Core.{Core}
use Rattle.node_state.specs.State.{with_sessions}
use Rattle.node_state.specs.HandOn.{Answering}
use Rattle.node_state.specs.Applying.{level_set}
use Rattle.node_state.specs.Step.{NodeEvent, at_work, started, stepped}
use Rattle.world_model.specs.declared.event.Event.{Event}
use Rattle.run_safety.specs.Past.{History, records_of, earlier, Within, EachRecord}
use Rattle.run_safety.specs.Bases.{Bases}
use Rattle.step_refinement.specs.Tied.{Scene, NodeIsIf, Rests}
use Rattle.step_refinement.specs.Rules.{ended, Arises}
use Rattle.step_refinement.specs.Runs.{Reached}
use Rattle.step_refinement.proofs.Begins.{begin_tied}
use Rattle.run_induction.proofs.Invariants.{Holds, Done, Invariant, reached_holds, node_holds}
use Rattle.run_induction.proofs.Quiet.{PutsNone}
use Rattle.entry_laws.proofs.closing_rows.Entered.{since_within}
use Rattle.entry_laws.proofs.closing_rows.Evident.{ToldNow, told_less, AgainIn, again_each}
use Rattle.entry_laws.proofs.closing_rows.At.{found, leads_row}
use Rattle.entry_laws.proofs.closing_rows.Law.{bases_in, logs_in, told_in}
use Rattle.entry_laws.specs.carried_values.Carried.{EntryCarries, BodyTold, KeptTold, RecordCarries, FirstBallotsCarry, FirstBallotsAlwaysCarry, SentBallotsAreTold, KeptBallotsAreTold}
use Rattle.entry_laws.proofs.carried_values.More.{entry_on}
use Rattle.entry_laws.proofs.carried_values.At.{RowIs, PutFact, RecordFact, Facts, At, ballot_on, body_on, row_is_on}
use Rattle.entry_laws.proofs.carried_values.Steps.{course, at_stepped}
use Rattle.row_laws.proofs.honest_votes.Changes.{Every}

-- ---- the records

-- what is put carries recorded ballots, or someone put it there before
abbrev Evident : List Happened → History → Happened → Type 0
Evident now before (happened.Put n v g i e) = PutFact now before v g i e
Evident now before _ = Unit {0}

abbrev Carry : List Happened → Type 0
Carry rs = (n : ℕ) (v : ViewId) (g : List ℕ) (i : ℕ) (e : Entry) → Has (happened.Put n v g i e) rs → EntryCarries rs e

put_carries : (n : ℕ) (v : ViewId) (g : List ℕ) (i : ℕ) (e : Entry) (now : List Happened) (before : History) → Carry (earlier now before) → Evident now before (happened.Put n v g i e) → EntryCarries (earlier now before) e
put_carries n v g i e now before old (inl k) = k
put_carries n v g i e now before old (inr k) = old k.0 v g i e k.1

record_carries : (r : Happened) (now : List Happened) (before : History) → Carry (earlier now before) → Evident now before r → RecordCarries now before r
record_carries (happened.Put n v g i e) now before old k = put_carries n v g i e now before old k
record_carries _ now before old k = tt

within_carries : (now : List Happened) (before : History) → Carry (records_of before) → Within Evident now before → Within RecordCarries now before × Carry (earlier now before)
within_carries [] before old k = (tt, old)
within_carries (r ∷ now) before old k =
    let rest = within_carries now before old k.1 in
    ((record_carries r now before rest.1 k.0, rest.0), all rest.1)
  where
    more : (e : Entry) → EntryCarries (earlier now before) e → EntryCarries (r ∷ earlier now before) e
    more e c = entry_on (earlier now before) (r ∷ earlier now before) (λ x i. inr i) e c

    all : Carry (earlier now before) → Carry (r ∷ earlier now before)
    all older n v g i e (inr h) = more e (older n v g i e h)
    all older n v g i e (inl q) = more e (put_carries n v g i e now before older (subst (Evident now before) (sym q) k.0))

all_carry : (h : History) → EachRecord Evident h → FirstBallotsCarry h × Carry (records_of h)
all_carry [] k = (tt, λ n v g i e z. absurd z)
all_carry (e ∷ before) k =
    let older = all_carry before k.1 in
    let now = within_carries e.records before older.1 k.0 in ((now.0, older.0), now.1)

-- ---- what a step has recorded

again_evident : (r : Happened) (now : List Happened) (before : History) → ((g : List ℕ) → AgainIn g now before r) → Evident now before r
again_evident (happened.Put n v g i e) now before k = inr (k g refl)
again_evident _ now before k = tt

all_again : (now : List Happened) (before : History) → Within (λ a b r. (g : List ℕ) → AgainIn g a b r) now before → Within Evident now before
all_again [] before k = tt
all_again (r ∷ now) before k = (again_evident r now before k.0, all_again now before k.1)

fact_evident : (r : Happened) (now : List Happened) (before : History) → RecordFact now before r → Evident now before r
fact_evident (happened.Put n v g i e) now before k = k
fact_evident _ now before k = tt

facts_evident : (bases : List ℕ → Bases) (log : List ℕ → ViewId → List Entry) (h : History) (now : List Happened) → ToldNow bases log now h → Facts h now → Within Evident now h
facts_evident bases log h now t k =
    since_within RecordFact Evident h (λ rs. ToldNow bases log rs h) (λ r rs c. told_less bases log r rs h c) (λ r rs c. fact_evident r rs h) (λ n v ms rs c. (tt, all_again rs h (again_each bases log rs h (told_less bases log (happened.In n v ms) rs h c) (λ g. (c g).in_order.0)))) now t k

-- ---- the invariant

-- what a node keeps and has counted was recorded
record CoreTold (rs : List Happened) (s : Core) : Type 0 where
  kept : (k : KeptBallot) → Has k s.sessions.kept → KeptTold rs k
  tallies : (g : List ℕ) → RowIs rs (leads_row s (found s g)) (found s g)

module _ (rs ts : List Happened) (more : (r : Happened) → Has r rs → Has r ts) where
  core_on : (s : Core) → CoreTold rs s → CoreTold ts s
  core_on s k =
      record {
        kept = λ x i. ballot_on rs ts more x.provider x.proto x.phase x.ballot.filled (k.kept x i);
        tallies = λ g. row_is_on rs ts more (leads_row s (found s g)) (found s g) (k.tallies g);
      }

none_evident : (r : Happened) (now : List Happened) (before : History) → PutsNone r → Evident now before r
none_evident (happened.Put n v g i e) now before z = absurd z
none_evident _ now before z = tt

-- a node that starts
started_told : (rs : List Happened) (c : Config) (n j : ℕ) → CoreTold rs (started c n j)
unfolding started with_sessions level_set views_new
started_told rs c n j = record { kept = λ k i. absurd i; tallies = λ g. inl refl }

-- nothing is said of what was sent
abbrev Node : List Packet → List Happened → Core → Type 0
Node ps rs s = CoreTold rs s

abbrev Sent : List Happened → Packet → Type 0
Sent rs p = BodyTold rs p.body

-- a step
step_done : (w : Scene) (n : ℕ) (f : Answering) (s : Core) (e : NodeEvent) (v : Event) → w.cores n ≡ Some s → ((g : List ℕ) → Rests g w) → ((g : List ℕ) → Rests g (ended w n v (stepped f s e))) → Arises w e → Holds Sent Node Evident w → CoreTold (records_of w.before) s → Done Sent Node Evident w (stepped f s e)
step_done w n f s e v up rests after arises k c =
    let now : Scene = ended w n v (stepped f s e) in
    let a : At (course w) Every (stepped f s e) = at_stepped w n s k.sent (λ h. begin_tied h w n s up (rests h)) f e arises begin in
    record {
      sends = a.sends;
      node = record { kept = a.kept; tallies = λ g. a.tallies g tt };
      lines = facts_evident (bases_in now after) (logs_in now after) w.before (reverse (stepped f s e).records) (λ g. told_in now after g) (a.facts refl);
    }
  where
    begin : At (course w) Every (at_work s)
    begin =
        record {
          sends = λ p i. absurd i;
          kept = c.kept;
          facts = λ z. tt;
          order = (subst (NodeIsIf w.config (rests []).ghost [] n (w.incs n)) up ((rests []).nodes n)).0.order;
          tallies = λ g t. c.tallies g;
        }

carried : Invariant Sent Node Evident
carried =
    record {
      sent_on = λ rs ts more p k. body_on rs ts more p.body k;
      node_on = λ ps qs sent. core_on;
      starts = λ ps. started_told;
      quiet = none_evident;
      steps = step_done;
    }

told : (c : Config) (w : Scene) → Reached c w → Holds Sent Node Evident w
told = reached_holds Sent Node Evident carried

core_told : (c : Config) (w : Scene) → Reached c w → (n : ℕ) (s : Core) → w.cores n ≡ Some s → CoreTold (records_of w.before) s
core_told = node_holds Sent Node Evident carried

pub first_ballots_carry : FirstBallotsAlwaysCarry
first_ballots_carry c w k = (all_carry w.before (told c w k).lines).0

pub sent_ballots : SentBallotsAreTold
sent_ballots c w k = (told c w k).sent

pub kept_ballots : KeptBallotsAreTold
kept_ballots c w k n s up = (core_told c w k n s up).kept
