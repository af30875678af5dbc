-- Each entry of a log that closes a phase has the tally that its kind says, and each fits those before it.
use Rattle.std.proofs.Common.{refl, Some, ◌≡◌, ℕ, ◌⊎◌, ◌<◌, List, [], ◌∷◌, length, take, Bool, true, false, sym, ap, ◌∙◌, subst, ⊎_elim, arith}
use Rattle.std.specs.Prelude.{slice_get, if◌then◌else◌}
use Rattle.std.proofs.lemmas.List.{take_at}
use Rattle.rsct_packet.specs.declared.ids.ViewId.{ViewId}
use Rattle.rsct_packet.specs.Search.{Has}
use Rattle.proposal_core.specs.declared.entry.Vote.{Vote}
use Rattle.proposal_core.specs.declared.entry.Vote.TheVariants as vote
use Rattle.proposal_core.specs.declared.entry.Row.{Row}
use Rattle.proposal_core.specs.declared.entry.Entry.{Entry}
use Rattle.proposal_core.specs.declared.entry.Entry.TheVariants.{Approve}
use Rattle.proposal_core.specs.Fold.{fits}
use Rattle.vote_phases.specs.Tally.{vote_of_row, is_reject, is_continue, any_stands, tally_of}
use Rattle.run_safety.specs.Group.{Record}
use Rattle.run_safety.specs.Past.{fold_from}
use Rattle.run_safety.specs.Bases.{Bases, base_state, state_of_list}
use Rattle.run_safety.specs.Tallies.{IsTallied, Tallied, ApprovedByAll}
use Rattle.run_safety.proofs.Appends.{Extends, extends_grows}
use Rattle.run_safety.proofs.HeardLaw.{take_front, get_within}
use Rattle.run_safety.proofs.Tests.{has_any}

pub record TallyOk (log : ViewId → List Entry) (bases : Bases) : Type 0 where
  pub entry : (v : ViewId) (i : ℕ) (e : Entry) → slice_get (log v) i ≡ Some e → IsTallied e
  pub fitting : (v : ViewId) (i : ℕ) (e : Entry) → slice_get (log v) i ≡ Some e → fits (state_of_list bases v (take i (log v))) e ≡ true

-- each entry of the longer log is old, or the new one
pub tally_extends : (log log' : ViewId → List Entry) (bases : Bases) (v : ViewId) (e : Entry) → Extends log log' v e → ((u : ViewId) (i : ℕ) (f : Entry) → slice_get (log' u) i ≡ Some f → (slice_get (log u) i ≡ Some f) ⊎ ((u ≡ v) × (i ≡ length (log v)) × (f ≡ e))) → IsTallied e → fits (state_of_list bases v (log v)) e ≡ true → TallyOk log bases → TallyOk log' bases
tally_extends log log' bases v e ext cases new room old =
    record {
      entry = λ u i f h. ⊎_elim (λ (k : slice_get (log u) i ≡ Some f). old.entry u i f k) (λ (k : (u ≡ v) × (i ≡ length (log v)) × (f ≡ e)). subst IsTallied (sym k.2) new) (cases u i f h);
      fitting = λ u i f h. ⊎_elim (was u i f) (at u i f) (cases u i f h);
    }
  where
    Fits : ViewId → ℕ → Entry → Type 0
    Fits u i f = fits (state_of_list bases u (take i (log' u))) f ≡ true

    was : (u : ViewId) (i : ℕ) (f : Entry) → slice_get (log u) i ≡ Some f → Fits u i f
    was u i f k =
        let l : i < length (log u) = get_within i f (log u) k in
        let same : take i (log' u) ≡ take i (log u) = take_front i (log u) (log' u) ((extends_grows log log' v e ext).at u) (omega (arith, l)) in
        subst (λ xs. fits (state_of_list bases u xs) f ≡ true) (sym same) (old.fitting u i f k)

    here : Fits v (length (log v)) e
    here =
        let same : take (length (log v)) (log' v) ≡ log v = ap (take (length (log v))) ext.here ∙ take_at (log v) (e ∷ []) (length (log v)) refl in
        subst (λ xs. fits (state_of_list bases v xs) e ≡ true) (sym same) room

    at : (u : ViewId) (i : ℕ) (f : Entry) → (u ≡ v) × (i ≡ length (log v)) × (f ≡ e) → Fits u i f
    at u i f k =
        subst (λ (z : ViewId × ℕ × Entry). Fits z.0 z.1 z.2) (λ z. (sym k.0 z, sym k.1 z, sym k.2 z)) here

-- a view that has entries keeps its base
pub tally_based : (log : ViewId → List Entry) (bases bases' : Bases) → ((v : ViewId) (i : ℕ) (e : Entry) → slice_get (log v) i ≡ Some e → bases v ≡ bases' v) → TallyOk log bases → TallyOk log bases'
tally_based log bases bases' same old =
    record {
      entry = old.entry;
      fitting = λ v i e h. subst (λ b. fits (fold_from v (base_state b) 0 (take i (log v))) e ≡ true) (same v i e h) (old.fitting v i e h);
    }

-- where the tally approves, each row does
pub all_approve : (rows : List Row) → tally_of rows ≡ vote.Approve → (r : Row) → Has r rows → vote_of_row r.vote ≡ vote.Approve
all_approve rows q r h = by (any_stands is_reject rows) (any_stands is_continue rows) refl refl q
  where
    -- a row that stands for another vote would be among those that reject or continue
    is : (v : Vote) → vote_of_row r.vote ≡ v → (is_reject v ≡ true → ⊥) → (is_continue v ≡ true → ⊥) → vote_of_row r.vote ≡ vote.Approve
    is vote.Approve e a b = e
    is vote.Continue e a b = absurd (b refl)
    is vote.Reject e a b = absurd (a refl)

    none : (test : Vote → Bool) → any_stands test rows ≡ false → test (vote_of_row r.vote) ≡ true → ⊥
    none test e t =
        let f : any_stands test rows ≡ true = has_any (λ (x : Row). test (vote_of_row x.vote)) rows r h t in
        let g : true ≡ false = sym f ∙ e in
        cc

    by : (a b : Bool) → any_stands is_reject rows ≡ a → any_stands is_continue rows ≡ b → (if a then vote.Reject else if b then vote.Continue else vote.Approve) ≡ vote.Approve → vote_of_row r.vote ≡ vote.Approve
    by true b e f z = absurd (cc)
    by false true e f z = absurd (cc)
    by false false e f z = is (vote_of_row r.vote) refl (none is_reject e) (none is_continue f)

pub approved_by_all : (tr : List Record) → Tallied tr → ApprovedByAll tr
approved_by_all tr t n v i c h r k = all_approve c.rows (t n v i (Approve c) h) r k
