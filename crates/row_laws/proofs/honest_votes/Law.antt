-- Each scene that events lead to.
use Rattle.std.proofs.Common.{◌≡◌, ℕ, List, Some, refl, sym, subst, inl, inr}
use Rattle.rsct_packet.specs.Search.{Has}
use Rattle.proposal_core.specs.Lists.{state_in}
use Rattle.session_state.specs.declared.state.KeptBallot.{KeptBallot}
use Rattle.view_state.specs.Views.{views_new}
use Rattle.node_state.specs.declared.config.Config.{Config}
use Rattle.node_state.specs.declared.group.GroupRow.{GroupRow}
use Rattle.node_state.specs.declared.happened.Happened.{Happened}
use Rattle.node_state.specs.declared.happened.Happened.TheVariants as happened
use Rattle.node_state.specs.declared.packet.Packet.{Packet}
use Rattle.node_state.specs.declared.state.Core.{Core}
use Rattle.node_state.specs.State.{InNameOrder, row_of, led_of, list_of, state_of, with_sessions}
use Rattle.node_state.specs.HandOn.{Answering}
use Rattle.node_state.specs.Applying.{level_set}
use Rattle.node_state.specs.Step.{NodeEvent, at_work, started, stepped}
use Rattle.world_model.specs.declared.event.Event.{Event}
use Rattle.run_safety.specs.Past.{History, records_of}
use Rattle.step_refinement.specs.Tied.{Scene, Rests}
use Rattle.step_refinement.specs.Rules.{Arises}
use Rattle.step_refinement.specs.Runs.{Reached}
use Rattle.step_refinement.proofs.Begins.{begin_tied}
use Rattle.run_induction.proofs.Quiet.{PutsNone}
use Rattle.run_induction.proofs.Invariants.{Holds, Done, Invariant, reached_holds, node_holds}
use Rattle.row_laws.specs.honest_votes.Casts.{RecordCast, BodyCast, KeptCast, ListCast, ViewsCast, TallyCast}
use Rattle.row_laws.specs.honest_votes.Scenes.{RecordedVotesAreCast, SentVotesAreCast, KeptVotesAreCast, ListedVotesAreCast, CountedVotesAreCast, GatheredVotesAreCast}
use Rattle.row_laws.proofs.honest_votes.More.{body_on, ballot_on, entries_on, views_on}
use Rattle.row_laws.proofs.honest_votes.At.{found, leads_row, RowIs, RowApart, row_is_on, At}
use Rattle.row_laws.proofs.honest_votes.Changes.{Every}
use Rattle.row_laws.proofs.honest_votes.Steps.{at_stepped}

-- what a node has was cast
record CoreCast (rs : List Happened) (s : Core) : Type 0 where
  kept : (k : KeptBallot) → Has k s.sessions.kept → KeptCast rs k
  lists : (row : GroupRow) → Has row s.groups → ListCast rs row.list
  views : ViewsCast rs s.views
  order : InNameOrder s.groups
  tallies : (g : List ℕ) → RowIs rs (leads_row s (found s g)) (found s g)
  apart : (g : List ℕ) → RowApart (found s g)

module _ (rs ts : List Happened) (more : (r : Happened) → Has r rs → Has r ts) where
  core_on : (s : Core) → CoreCast rs s → CoreCast ts s
  core_on s k =
      record {
        kept = λ x i. ballot_on rs ts more x.provider x.proto x.phase x.ballot.filled (k.kept x i);
        lists = λ row i e j. entries_on rs ts more _ (k.lists row i) e j;
        views = views_on rs ts more s.views k.views;
        order = k.order;
        tallies = λ g. row_is_on rs ts more (leads_row s (found s g)) (found s g) (k.tallies g);
        apart = k.apart;
      }

-- a node that starts
started_cast : (rs : List Happened) (c : Config) (n j : ℕ) → CoreCast rs (started c n j)
unfolding started with_sessions level_set views_new
started_cast rs c n j = record { kept = λ k i. absurd i; lists = λ row i. absurd i; views = (tt, tt); order = tt; tallies = λ g. inl refl; apart = λ g. refl }

-- what puts nothing records no vote
none_cast : (r : Happened) (now : List Happened) (before : History) → PutsNone r → RecordCast now before r
none_cast (happened.Put n v g i e) now before z = absurd z
none_cast _ now before z = tt

-- nothing is said of what was sent
abbrev Node : List Packet → List Happened → Core → Type 0
Node ps rs s = CoreCast rs s

abbrev Sent : List Happened → Packet → Type 0
Sent rs p = BodyCast rs p.body

step_done : (w : Scene) (n : ℕ) (f : Answering) (s : Core) (e : NodeEvent) (v : Event) → w.cores n ≡ Some s → ((g : List ℕ) → Rests g w) → Arises w e → Holds Sent Node RecordCast w → CoreCast (records_of w.before) s → Done Sent Node RecordCast w (stepped f s e)
step_done w n f s e v up rests arises k c =
    let a : At w.before Every (stepped f s e) = at_stepped w n s k.sent (λ h. begin_tied h w n s up (rests h)) f e arises begin in
    record {
      sends = a.sends;
      node = record { kept = a.kept; lists = a.lists; views = a.views; order = a.order; tallies = λ g. a.tallies g tt; apart = a.apart };
      lines = a.puts;
    }
  where
    begin : At w.before Every (at_work s)
    begin =
        record {
          sends = λ p i. absurd i;
          kept = c.kept;
          lists = c.lists;
          views = c.views;
          puts = tt;
          order = c.order;
          tallies = λ g t. c.tallies g;
          apart = c.apart;
        }

honest : Invariant Sent Node RecordCast
honest =
    record {
      sent_on = λ rs ts more p k. body_on rs ts more p.body k;
      node_on = λ ps qs sent. core_on;
      starts = λ ps. started_cast;
      quiet = none_cast;
      steps = λ w n f s e v up rests after arises k c. step_done w n f s e v up rests arises k c;
    }

cast_in : (c : Config) (w : Scene) → Reached c w → Holds Sent Node RecordCast w
cast_in = reached_holds Sent Node RecordCast honest

core_cast : (c : Config) (w : Scene) → Reached c w → (n : ℕ) (s : Core) → w.cores n ≡ Some s → CoreCast (records_of w.before) s
core_cast = node_holds Sent Node RecordCast honest

pub recorded_votes : RecordedVotesAreCast
recorded_votes c w k = (cast_in c w k).lines

pub sent_votes : SentVotesAreCast
sent_votes c w k = (cast_in c w k).sent

pub kept_votes : KeptVotesAreCast
kept_votes c w k n s up = (core_cast c w k n s up).kept

pub listed_votes : ListedVotesAreCast
listed_votes c w k n s up = (core_cast c w k n s up).lists

pub gathered_votes : GatheredVotesAreCast
gathered_votes c w k n s up = (core_cast c w k n s up).views

pub counted_votes : CountedVotesAreCast
unfolding led_of state_of list_of row_of
counted_votes c w k n s up g = by ((core_cast c w k n s up).tallies g)
  where
    by : RowIs (records_of w.before) (leads_row s (found s g)) (found s g) → TallyCast (records_of w.before) (found s g).led.tally (state_in (found s g).list).running
    by (inl none) = subst (λ o. TallyCast (records_of w.before) o (state_in (found s g).list).running) (sym none) tt
    by (inr j) = j.1
