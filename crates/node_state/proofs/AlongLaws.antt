-- The states of groups along the records of one change and of the next.
use Rattle.std.proofs.Common.{◌≡◌, ℕ, List, [], ◌∷◌, ◌++◌, refl, sym, ap, ◌∙◌, append_assoc, append-nil}
use Rattle.proposal_core.specs.declared.group_state.GroupState.{GroupState}
use Rattle.node_state.specs.declared.happened.Happened.{Happened}
use Rattle.node_state.specs.declared.happened.Happened.TheVariants as happened
use Rattle.node_state.specs.declared.state.Core.{Core}
use Rattle.node_state.specs.State.{row_of, list_of, state_of}
use Rattle.node_state.specs.Handed.{state_then, state_along, Along, Logged, logged_if, logged_in}

pub along_both : (g : List ℕ) (xs ys : List Happened) (st : GroupState) → state_along g (xs ++ ys) st ≡ state_along g ys (state_along g xs st)
along_both g [] ys st = refl
along_both g (r ∷ xs) ys st = along_both g xs ys (state_then g r st)

pub state_as : (s t : Core) (g : List ℕ) → t.groups ≡ s.groups → state_of t g ≡ state_of s g
unfolding state_of list_of row_of
state_as s t g e = rw e refl

-- records of which none changes the state of a group
abbrev pub LeavesStates : List Happened → Type 0
LeavesStates rs = (g : List ℕ) (st : GroupState) → state_along g rs st ≡ st

pub leaves_both : (xs ys : List Happened) → LeavesStates xs → LeavesStates ys → LeavesStates (xs ++ ys)
leaves_both xs ys a b g st = along_both g xs ys st ∙ (b g (state_along g xs st) ∙ a g st)

-- such records more, and the same groups
unfoldable pub along_records : (s t : Core) (rs : List Happened) → t.records ≡ s.records ++ rs → t.groups ≡ s.groups → LeavesStates rs → Along s t
along_records s t rs more groups leaves =
    record { records = rs; more = more; order = λ o. rw groups o; states = λ o g. state_as s t g groups ∙ sym (leaves g (state_of s g)) }

-- no record more
pub along_same : (s t : Core) → t.records ≡ s.records → t.groups ≡ s.groups → Along s t
along_same s t records groups = along_records s t [] (records ∙ sym (append-nil s.records)) groups (λ g st. refl)

pub along_itself : (s : Core) → Along s s
along_itself s = along_same s s refl refl

unfoldable pub along_then : (s t u : Core) → Along s t → Along t u → Along s u
along_then s t u a b =
    record {
      records = a.records ++ b.records;
      more = b.more ∙ (ap (λ (rs : List Happened). rs ++ b.records) a.more ∙ append_assoc s.records a.records b.records);
      order = λ o. b.order (a.order o);
      states = λ o g.
          b.states (a.order o) g ∙ (ap (state_along g b.records) (a.states o g) ∙ sym (along_both g a.records b.records (state_of s g)));
    }

-- ---- what is handed

logged_if_same : (r : Happened) (a b : List ℕ → GroupState) → ((g : List ℕ) → a g ≡ b g) → logged_if r a ≡ logged_if r b
logged_if_same (happened.Heard p v g i e members value) a b same =
    ap (λ st. record { what = happened.Heard p v g i e members value; after = st } ∷ []) (same g)
logged_if_same (happened.Told p r why) a b same = refl
logged_if_same (happened.Noted node client v i told) a b same = refl
logged_if_same (happened.Up n i) a b same = refl
logged_if_same (happened.Down n) a b same = refl
logged_if_same (happened.Ring n network ring members neighbour) a b same = refl
logged_if_same (happened.In n v ms) a b same = refl
logged_if_same (happened.Base n v g old len st) a b same = refl
logged_if_same (happened.Put n v g i e) a b same = refl
logged_if_same (happened.Cast p proto phase vote value message) a b same = refl
logged_if_same (happened.Asked p r g x) a b same = refl
logged_if_same (happened.Refused n client fault) a b same = refl
logged_if_same (happened.Shown n line) a b same = refl

-- the states matter alone
pub logged_same : (rs : List Happened) (a b : List ℕ → GroupState) → ((g : List ℕ) → a g ≡ b g) → logged_in rs a ≡ logged_in rs b
logged_same [] a b same = refl
logged_same (r ∷ rs) a b same =
    ap (λ (xs : List Logged). xs ++ logged_in rs (λ g. state_then g r (a g))) (logged_if_same r a b same)
    ∙ ap (λ (xs : List Logged). logged_if r b ++ xs) (logged_same rs (λ g. state_then g r (a g)) (λ g. state_then g r (b g)) (λ g. ap (state_then g r) (same g)))

pub logged_both : (xs ys : List Happened) (states : List ℕ → GroupState) → logged_in (xs ++ ys) states ≡ logged_in xs states ++ logged_in ys (λ g. state_along g xs (states g))
logged_both [] ys states = refl
logged_both (r ∷ xs) ys states =
    ap (λ (zs : List Logged). logged_if r states ++ zs) (logged_both xs ys (λ g. state_then g r (states g)))
    ∙ sym (append_assoc (logged_if r states) (logged_in xs (λ g. state_then g r (states g))) (logged_in ys (λ g. state_along g (r ∷ xs) (states g))))
