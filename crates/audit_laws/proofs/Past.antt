-- What holds of a run's records holds of those before any of them.
use Rattle.std.proofs.Common.{◌≡◌, ℕ, Bool, true, false, List, [], ◌∷◌, ◌++◌, inl, inr, sym, ◌∙◌, ap, subst}
use Rattle.std.specs.Prelude.{◌==◌, ◌&&◌, if◌then◌else◌}
use Rattle.std.specs.Str.{bytes_eq}
use Rattle.rsct_packet.specs.declared.ids.ViewId.{ViewId}
use Rattle.rsct_packet.specs.Ids.{same_view}
use Rattle.rsct_packet.specs.Search.{Has}
use Rattle.proposal_core.specs.declared.entry.Entry.{Entry}
use Rattle.proposal_core.specs.declared.group_state.GroupState.{GroupState}
use Rattle.node_state.specs.declared.happened.Happened.{Happened}
use Rattle.node_state.specs.declared.happened.Happened.TheVariants as happened
use Rattle.run_safety.specs.Past as past
use Rattle.audit_laws.specs.Records.{InTurn, OfRun}
use Rattle.audit_laws.proofs.Tests.{both, eq_self, view_self, text_self}

ends : (xs : List Entry) (e : Entry) → xs ++ e ∷ [] ≡ [] → ⊥
ends [] e q = cc
ends (x ∷ xs) e q = cc

pub own_list : (n : ℕ) (v : ViewId) (g : List ℕ) → past.is_list n v g n v g ≡ true
own_list n v g = both (n == n) (same_view v v && bytes_eq g g) (eq_self n) (both (same_view v v) (bytes_eq g g) (view_self v) (text_self g))

-- who put something has a list
put_there : (n : ℕ) (v : ViewId) (g : List ℕ) (i : ℕ) (e : Entry) (rs : List Happened) → Has (happened.Put n v g i e) rs → past.puts_of n v g rs ≡ [] → ⊥
put_there n v g i e [] h q = h
put_there n v g i e (happened.Put m u w k f ∷ rs) (inl x) q =
    let a : n ≡ m = cc in
    let b : v ≡ u = cc in
    let c : g ≡ w = cc in
    let t : past.is_list n v g m u w ≡ true = (λ j. past.is_list n v g (sym a j) (sym b j) (sym c j)) ∙ own_list n v g in
    ends (past.puts_of n v g rs) f (ap (λ z. if z then past.puts_of n v g rs ++ f ∷ [] else past.puts_of n v g rs) (sym t) ∙ q)
put_there n v g i e (happened.Put m u w k f ∷ rs) (inr h) q = by (past.is_list n v g m u w) q (put_there n v g i e rs h)
  where
    by : (t : Bool) → (if t then past.puts_of n v g rs ++ f ∷ [] else past.puts_of n v g rs) ≡ [] → (past.puts_of n v g rs ≡ [] → ⊥) → ⊥
    by true z old = ends (past.puts_of n v g rs) f z
    by false z old = old z
put_there n v g i e (_ ∷ rs) (inl x) q = cc
put_there n v g i e (_ ∷ rs) (inr h) q = put_there n v g i e rs h q

pub older : (r : Happened) (rs : List Happened) → OfRun (r ∷ rs) → OfRun rs
older r rs k = record { seen = k.seen.1; rings = λ net. (k.rings net).1; in_turn = k.in_turn.1; known = λ n m v g i e t len x put base. noted n v g i e t len x put (k.known n m v g i e t len x (inr put) (inr base)) }
  where
    noted : (n : ℕ) (v : ViewId) (g : List ℕ) (i : ℕ) (e : Entry) (t : ViewId) (len : ℕ) (x : GroupState) → Has (happened.Put n v g i e) rs → Has (happened.Base n v g t len x) (r ∷ rs) → Has (happened.Base n v g t len x) rs
    noted n v g i e t len x put (inr h) = h
    noted n v g i e t len x put (inl q) =
        let now : InTurn rs (happened.Base n v g t len x) = subst (InTurn rs) (sym q) k.in_turn.0 in
        absurd (put_there n v g i e rs put now.1)
