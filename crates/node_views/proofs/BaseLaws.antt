-- The bases of an install are gathered name by name, and the running joiners of each fit its members.
use Rattle.std.proofs.Common.{◌≡◌, ℕ, zero, suc, ◌+◌, ◌^◌, ◌<◌, ◌≤◌, Bool, true, List, [], ◌∷◌, ◌++◌, length, take, get_or, Option, Some, None, refl, sym, ap, subst, ◌∙◌, arith}
use Rattle.std.specs.Prelude.{Result, Ok, Err, IfOk, IsTrue, nat_lt, slice_get}
use Rattle.std.specs.List.{list_all}
use Rattle.std.proofs.lemmas.Bool.Decides.{nat_tests}
use Rattle.std.proofs.lemmas.List.{take_more, take_all}
use Rattle.std.proofs.lemmas.Option.{slice_get_within, get_or_from_slice_get}
use Rattle.rsct_packet.specs.Format.{EachFits}
use Rattle.rsct_packet.specs.Lists.{best_of}
use Rattle.rsct_packet.proofs.FieldLaws.{and_true}
use Rattle.rsct_packet.specs.declared.ids.ProviderId.{ProviderId}
use Rattle.proposal_core.specs.declared.proposal.Proposal.{Proposal}
use Rattle.proposal_core.specs.declared.proposal.Proposal.TheVariants.{Join, Leave, Fail, Expel, State, Message, Attributes, Reflect}
use Rattle.proposal_core.specs.declared.group_state.GroupState.{GroupState}
use Rattle.proposal_core.specs.declared.group_state.Running.{Running}
use Rattle.proposal_core.specs.Fold.{can_begin, joiners_fit, joiners_fit_at}
use Rattle.view_state.specs.declared.install.Part.{Part}
use Rattle.view_state.specs.declared.install.Source.{Source}
use Rattle.view_state.specs.declared.install.Install.{Install}
use Rattle.view_state.specs.declared.install.Base.{Base}
use Rattle.view_state.specs.Parts.{part_len}
use Rattle.view_state.specs.Tails.{IsTail, AreTails, HasTails}
use Rattle.view_state.specs.Bases.{Candidate, candidates, beats, base_from, base_of_best, base_of, names_in, bases_for, bases_of}
use Rattle.view_bases.proofs.Bases.{winner_is_tail}
use Rattle.node_views.specs.Carried.{is_tail, are_tails, IsSound}

-- ---- the test of an install

tail_is : (p : Part) → is_tail p ≡ true → IsTail p
tail_is p h =
    let both = and_true (nat_lt (part_len p) (2 ^ 32)) (joiners_fit p.state) h in
    let ends : part_len p < 2 ^ 32 = grind (arith, nat_tests, both.0) in record { ends = ends; joiners = both.1 }

parts_are : (ps : List Part) → list_all is_tail ps ≡ true → EachFits IsTail ps
parts_are [] h = tt
parts_are (p ∷ ps) h = let both = and_true (is_tail p) (list_all is_tail ps) h in (tail_is p both.0, parts_are ps both.1)

sources_are : (ss : List Source) → list_all are_tails ss ≡ true → EachFits AreTails ss
sources_are [] h = tt
sources_are (s ∷ ss) h = let both = and_true (are_tails s) (list_all are_tails ss) h in (parts_are s.parts both.0, sources_are ss both.1)

pub tails_are_had : (i : Install) (b : Bool) → b ≡ list_all are_tails i.sources → IsTrue b → HasTails i
tails_are_had i b is h = record { each = sources_are i.sources (sym is ∙ h) }

-- ---- name by name

bases_both : (i : Install) (xs ys : List (List ℕ)) → bases_for i (xs ++ ys) ≡ bases_for i xs ++ bases_for i ys
unfolding bases_for
bases_both i [] ys = refl
bases_both i (g ∷ gs) ys = by (base_of i g) (bases_both i gs ys)
  where
    by : (o : Option Base) → bases_for i (gs ++ ys) ≡ bases_for i gs ++ bases_for i ys
        → elim o as (λ _. List Base) [ None ↦ bases_for i (gs ++ ys) | Some b ↦ b ∷ bases_for i (gs ++ ys) ] ≡ elim o as (λ _. List Base) [ None ↦ bases_for i gs | Some b ↦ b ∷ bases_for i gs ] ++ bases_for i ys
    by None k = k
    by (Some b) k = ap (λ zs. b ∷ zs) k

pub bases_begin : (i : Install) → [] ≡ bases_for i (take 0 (names_in i.sources))
unfolding bases_for
bases_begin i = refl

pub bases_more : (i : Install) (k : ℕ) (g : List ℕ) → Some g ≡ slice_get (names_in i.sources) k → bases_for i (take (k + 1) (names_in i.sources)) ≡ bases_for i (take k (names_in i.sources)) ++ bases_for i (g ∷ [])
bases_more i k g is =
    let ns : List (List ℕ) = names_in i.sources in
    let lt : k < length ns = slice_get_within ns k g (sym is) in
    ap (bases_for i) (take_more ns k g lt) ∙ (bases_both i (take k ns) (get_or ns k g ∷ []) ∙ ap (λ x. bases_for i (take k ns) ++ bases_for i (x ∷ [])) (get_or_from_slice_get ns k g g (sym is)))

past_end : (ns : List (List ℕ)) (k : ℕ) → slice_get ns k ≡ None → length ns ≤ k
past_end [] k e = omega arith
past_end (x ∷ ns) zero e = absurd cc
past_end (x ∷ ns) (suc k) e = let h = past_end ns k e in omega arith

pub bases_end : (i : Install) (k : ℕ) → None ≡ slice_get (names_in i.sources) k → bases_for i (take k (names_in i.sources)) ≡ bases_of i
unfolding bases_of
bases_end i k is = ap (bases_for i) (take_all k (names_in i.sources) (past_end (names_in i.sources) k (sym is)))

-- ---- the joiners of each fit

-- who failed does not matter to that
begin_without : (s : GroupState) (fs : List ProviderId) (x : Proposal) → can_begin (record s { failed = fs }) x ≡ can_begin s x
unfolding can_begin
begin_without s fs (Join ps attrs n) = refl
begin_without s fs (Leave p r) = refl
begin_without s fs (Fail out) = refl
begin_without s fs (Expel p r out) = refl
begin_without s fs (State p r value) = refl
begin_without s fs (Message p r bytes) = refl
begin_without s fs (Attributes p r attrs) = refl
begin_without s fs (Reflect view place value) = refl

fit_at : (s : GroupState) (fs : List ProviderId) (run : Option Running) → joiners_fit_at (record s { failed = fs }) run ≡ joiners_fit_at s run
unfolding joiners_fit_at
fit_at s fs None = refl
fit_at s fs (Some run) = begin_without s fs run.proposal

fit_without : (s : GroupState) (fs : List ProviderId) → joiners_fit (record s { failed = fs }) ≡ joiners_fit s
unfolding joiners_fit
fit_without s fs = fit_at s fs s.running

best_is_sound : (i : Install) (g : List ℕ) (b : Base) (o : Option Candidate) → HasTails i → best_of beats (candidates i g i.sources) ≡ o → base_of_best i g o ≡ Some b → IsSound b
unfolding base_from
best_is_sound i g b None h e is = absurd cc
best_is_sound i g b (Some w) h e is =
    let same : base_from i g w ≡ b = cc in
    subst IsSound same (fit_without w.part.state _ ∙ (winner_is_tail i g w h (sym e)).joiners)

base_is_sound : (i : Install) (g : List ℕ) (b : Base) → HasTails i → base_of i g ≡ Some b → IsSound b
unfolding base_of
base_is_sound i g b h is = best_is_sound i g b (best_of beats (candidates i g i.sources)) h refl is

each_is_sound : (i : Install) (ns : List (List ℕ)) → HasTails i → EachFits IsSound (bases_for i ns)
unfolding bases_for
each_is_sound i [] h = tt
each_is_sound i (n ∷ ns) h = by (base_of i n) refl (each_is_sound i ns h)
  where
    by : (o : Option Base) → base_of i n ≡ o → EachFits IsSound (bases_for i ns) → EachFits IsSound (elim o as (λ _. List Base) [ None ↦ bases_for i ns | Some b ↦ b ∷ bases_for i ns ])
    by None e k = k
    by (Some b) e k = (base_is_sound i n b h e, k)

pub bases_are_sound : {E : Type 0} (i : Install) (r : Result (List Base) E) → HasTails i → IfOk r (λ l. l ≡ bases_of i) → IfOk r (λ l. EachFits IsSound l)
unfolding bases_of
bases_are_sound i (Ok l) h is = subst (EachFits IsSound) (sym is) (each_is_sound i (names_in i.sources) h)
bases_are_sound i (Err e) h is = tt

-- ---- a fact of each is one of the next

pub sound_at : (bs : List Base) (k : ℕ) (b : Base) → EachFits IsSound bs → k < length bs → b ≡ get_or bs k b → IsSound b
sound_at [] k b h lt is = absurd (omega arith)
sound_at (x ∷ bs) zero b h lt is = subst IsSound (sym is) h.0
sound_at (x ∷ bs) (suc k) b h lt is = sound_at bs k b h.1 (omega arith) is
