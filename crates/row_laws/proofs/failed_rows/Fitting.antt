-- In each base that is noted no joiner is a member.
use Rattle.std.proofs.Common.{◌≡◌, ℕ, List, Option, Some, None, true, refl, sym, ap, ◌∙◌, subst}
use Rattle.rsct_packet.specs.declared.ids.ViewId.{ViewId}
use Rattle.rsct_packet.specs.declared.ids.ProviderId.{ProviderId}
use Rattle.rsct_packet.specs.Search.{Has}
use Rattle.proposal_core.specs.declared.entry.Entry.{Entry}
use Rattle.proposal_core.specs.declared.proposal.Proposal.{Proposal}
use Rattle.proposal_core.specs.declared.proposal.Proposal.TheVariants.{Join}
use Rattle.proposal_core.specs.declared.group_state.GroupState.{GroupState}
use Rattle.proposal_core.specs.declared.group_state.Running.{Running}
use Rattle.proposal_core.specs.Fold.{empty_state, can_begin, joiners_fit_at, joiners_fit}
use Rattle.node_state.specs.declared.happened.Happened.TheVariants as happened
use Rattle.run_safety.specs.Past.{History, records_of}
use Rattle.run_safety.specs.Sight.{lines_of}
use Rattle.run_safety.specs.Group.{Standing, Reply, Packet, Line, Kept, Noted, Put, Based, kept}
use Rattle.run_safety.specs.Group as group
use Rattle.run_safety.specs.Bases.{Bases, base_state, marked}
use Rattle.run_safety.specs.Moves.{Leads, Opening, Life}
use Rattle.run_safety.proofs.Lives.{whole}
use Rattle.run_safety.proofs.SightLaws.{kept_line, own_line, line_seen, line_recorded}
use Rattle.step_refinement.specs.Tied.{Scene, Rests}
use Rattle.row_laws.proofs.failed_rows.Facts.{BasesFit}
use Rattle.row_laws.proofs.failed_rows.Puts.{apart_after}
use Rattle.row_laws.proofs.failed_rows.Founded.{based}

-- ---- of every life

marked_fits : (rs : List Reply) (u : ViewId) (s : GroupState) → joiners_fit s ≡ true → joiners_fit (marked rs u s) ≡ true
unfolding joiners_fit joiners_fit_at can_begin
marked_fits rs u s k = by s.running k
  where
    of : (x : Proposal) → can_begin s x ≡ true → can_begin (marked rs u s) x ≡ true
    of (Join ps attrs n) k = k
    of _ k = refl

    by : (run : Option Running) → joiners_fit_at s run ≡ true → joiners_fit_at (marked rs u s) run ≡ true
    by None k = refl
    by (Some run) k = of run.proposal k

pub empty_fits : joiners_fit empty_state ≡ true
unfolding joiners_fit joiners_fit_at
empty_fits = refl

bases_fit : {o : Opening} {nodes : ℕ → Standing} {ps : List Packet} {all : List Line} {leads : Leads} {bases : Bases} → Life o nodes ps all leads bases → (v : ViewId) → joiners_fit (base_state (bases v)) ≡ true
bases_fit life = based (λ e. Unit {0}) (λ s. joiners_fit s ≡ true) empty_fits (λ s v i e n k. apart_after s v i e k) marked_fits life (λ n v i e h. tt)

-- ---- what the group sees of records

pub base_seen : (n : ℕ) (v : ViewId) (g : List ℕ) (u : ViewId) (len : ℕ) (s : GroupState) (h : History) → Has (happened.Base n v g u len s) (records_of h) → Has (Noted (Based n v (record { old = u; len = len; state = s }))) (lines_of g h)
base_seen n v g u len s h i = line_seen x g (happened.Base n v g u len s) (λ rs. own_line g x) h i
  where
    x : Line
    x = Noted (Based n v (record { old = u; len = len; state = s }))

pub asked_seen : (p : ProviderId) (r : ℕ) (g : List ℕ) (x : Proposal) (h : History) → Has (happened.Asked p r g x) (records_of h) → Has (Noted (group.Asked p r x)) (lines_of g h)
asked_seen p r g x h i = line_seen (Noted (group.Asked p r x)) g (happened.Asked p r g x) (λ rs. own_line g (Noted (group.Asked p r x))) h i

-- where all groups rest, each base that was noted is such
pub noted_fit : (w : Scene) → ((g : List ℕ) → Rests g w) → BasesFit (records_of w.before)
noted_fit w rests (happened.Base n v g u len s) i =
    let k : Rests g w = rests g in
    let noted = (whole k.life).based_ok in
    let there : Has (Noted (Based n v (record { old = u; len = len; state = s }))) (k.ghost).all = subst (Has (Noted (Based n v (record { old = u; len = len; state = s })))) (sym k.lines) (base_seen n v g u len s w.before i) in
    ap (λ o. joiners_fit (base_state o)) (sym (noted.noted n v (record { old = u; len = len; state = s }) there)) ∙ bases_fit k.life v
noted_fit w rests _ i = tt

-- ---- a put that the group sees was recorded

pub put_back : (n : ℕ) (v : ViewId) (g : List ℕ) (i : ℕ) (e : Entry) (h : History) → Has (Put n v i e) (kept (lines_of g h)) → Has (happened.Put n v g i e) (records_of h)
put_back n v g i e h k = line_recorded g (Kept (Put n v i e)) (happened.Put n v g i e) refl h (kept_line (Put n v i e) (lines_of g h) k)
