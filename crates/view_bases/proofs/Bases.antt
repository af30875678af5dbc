-- What the base of a group is.
use Rattle.std.proofs.Common.{◌≡◌, ℕ, ◌<◌, Bool, true, false, cond, List, [], ◌∷◌, ◌++◌, Option, Some, None, refl, sym, ap, subst, ◌∙◌, arith, inl, inr, ⊎_elim}
use Rattle.std.specs.Option.{option_map}
use Rattle.view_bases.specs.Best.{winner_in}
use Rattle.view_bases.specs.declared.base.Winner.{Winner}
use Rattle.std.specs.Prelude.{IsTrue, IfSome, IfOk, Result, Ok, Err, not, ◌&&◌, ◌||◌, filter, find, is_some}
use Rattle.std.specs.Str.{bytes_eq}
use Rattle.std.proofs.lemmas.Slice.Eq.{bytes_eq-Decides}
use Rattle.std.proofs.lemmas.Bool.Decides.{nat_tests}
use Rattle.rsct_packet.specs.declared.ids.ProviderId.{ProviderId}
use Rattle.rsct_packet.specs.Lists.{best_of, is_empty}
use Rattle.rsct_packet.specs.Search.{Has}
use Rattle.rsct_packet.specs.Providers.{same_provider, among}
use Rattle.rsct_packet.specs.Format.{EachFits}
use Rattle.rsct_packet.proofs.HasLaws.{append_has_left}
use Rattle.rsct_packet.proofs.FieldLaws.{and_true}
use Rattle.proposal_core.specs.Fold.{present, joiners_in}
use Rattle.view_state.specs.declared.install.Part.{Part}
use Rattle.view_state.specs.declared.install.Source.{Source}
use Rattle.view_state.specs.declared.install.Install.{Install}
use Rattle.view_state.specs.declared.install.Base.{Base}
use Rattle.view_state.specs.Codec.{views_ascend}
use Rattle.view_state.specs.Tails.{IsTail, AreTails, HasTails}
use Rattle.view_state.specs.Bases.{Candidate, is_live_from, is_candidate, candidates, beats, leader_from, base_from, base_of_best, base_of, IsCandidate, leader_of, first_live, IsBaseOf, BaseIs}
use Rattle.view_bases.proofs.Winning.{winner_wins, none_is_candidate, winner_is_candidate}

-- ---- who leads

abbrev leader_or : ℕ → Option ProviderId → ℕ
leader_or other None = other
leader_or other (Some p) = p.node

same_provider_itself : (p : ProviderId) → same_provider p p ≡ true
same_provider_itself p = grind (arith, nat_tests)

same_provider_is : (p q : ProviderId) → same_provider p q ≡ true → p ≡ q
same_provider_is p q e = grind (arith, nat_tests)

or_true : (a b : Bool) → a ≡ true → (a || b) ≡ true
or_true true b e = refl
or_true false b e = absurd cc

or_right : (a b : Bool) → b ≡ true → (a || b) ≡ true
or_right true b e = refl
or_right false b e = e

or_none : (a b : Bool) → a ≡ false → b ≡ false → (a || b) ≡ false
or_none true b e f = absurd cc
or_none false b e f = f

-- one that is not live has failed
lost_failed : (f : ProviderId → Bool) (p : ProviderId) (xs : List ProviderId) → f p ≡ false → Has p xs → among (filter (λ q. not (f q)) xs) p ≡ true
lost_failed f p [] e h = absurd h
lost_failed f p (x ∷ xs) e (inl s) =
    let here : f x ≡ false = subst (λ (q : ProviderId). f q ≡ false) s e in
    let same : same_provider x p ≡ true = subst (λ (q : ProviderId). same_provider q p ≡ true) s (same_provider_itself p) in
    rw here (or_true (same_provider x p) (among (filter (λ q. not (f q)) xs) p) same)
lost_failed f p (x ∷ xs) e (inr h) =
    let more = lost_failed f p xs e h in
    elim (f x) as (λ b. among (cond (not b) (x ∷ filter (λ q. not (f q)) xs) (filter (λ q. not (f q)) xs)) p ≡ true) [
      | true ↦ more
      | false ↦ or_right (same_provider x p) (among (filter (λ q. not (f q)) xs) p) more
    ]

-- one that is live has not
live_not_failed : (f : ProviderId → Bool) (p : ProviderId) (xs : List ProviderId) → f p ≡ true → among (filter (λ q. not (f q)) xs) p ≡ false
live_not_failed f p [] e = refl
live_not_failed f p (x ∷ xs) e = by (f x) refl (live_not_failed f p xs e)
  where
    apart : (t : Bool) → same_provider x p ≡ t → f x ≡ false → same_provider x p ≡ false
    apart true s h = absurd (let is = same_provider_is x p s in let g : f x ≡ true = ap f is ∙ e in cc)
    apart false s h = s

    by : (t : Bool) → f x ≡ t → among (filter (λ q. not (f q)) xs) p ≡ false → among (cond (not t) (x ∷ filter (λ q. not (f q)) xs) (filter (λ q. not (f q)) xs)) p ≡ false
    by true h more = more
    by false h more = or_none (same_provider x p) (among (filter (λ q. not (f q)) xs) p) (apart (same_provider x p) refl h) more

leader_by : (i : Install) (f : ProviderId → Bool) (xs ms : List ProviderId) → ((m : ProviderId) → Has m ms → Has m xs) → leader_from i.view.coord (filter (λ q. not (f q)) xs) ms ≡ leader_of i (find f ms)
unfolding leader_from
leader_by i f xs [] all = refl
leader_by i f xs (m ∷ ms) all = by (f m) refl (leader_by i f xs ms (λ p h. all p (inr h)))
  where
    by : (t : Bool) → f m ≡ t → leader_from i.view.coord (filter (λ q. not (f q)) xs) ms ≡ leader_of i (find f ms) → (elim (among (filter (λ q. not (f q)) xs) m) [ true ↦ leader_from i.view.coord (filter (λ q. not (f q)) xs) ms | false ↦ m.node ]) ≡ leader_of i (cond t (Some m) (find f ms))
    by true h rest = rw (live_not_failed f m xs h) refl
    by false h rest = rw (lost_failed f m xs h (all m (inl refl))) rest

-- ---- the base

base_wins : (i : Install) (g : List ℕ) (w : Candidate) → IsTrue (views_ascend i.sources) → best_of beats (candidates i g i.sources) ≡ Some w → IsBaseOf i g (base_from i g w)
unfolding base_from
base_wins i g w asc e = record {
  source = w.source;
  part = w.part;
  wins = winner_wins i g w asc e;
  name = refl;
  state = refl;
  from = refl;
  len = refl;
  leader = leader_by i (is_live_from i w.source) (present w.part.state) w.part.state.members (λ m h. append_has_left m w.part.state.members (joiners_in w.part.state.running) h);
}

base_is_by : (i : Install) (g : List ℕ) (o : Option Candidate) → IsTrue (views_ascend i.sources) → best_of beats (candidates i g i.sources) ≡ o → BaseIs i g (base_of_best i g o)
base_is_by i g None asc e = λ s p h. none_is_candidate i g s p e h
base_is_by i g (Some w) asc e = base_wins i g w asc e

pub base_is : (i : Install) (g : List ℕ) (r : Option Base) → IsTrue (views_ascend i.sources) → r ≡ base_of i g → BaseIs i g r
unfolding base_of
base_is i g r asc e = subst (λ (o : Option Base). BaseIs i g o) (sym e) (base_is_by i g (best_of beats (candidates i g i.sources)) asc refl)

-- ---- what the winner's part is

EachFits-has : {A : Type 0} (fits : A → Type 0) (xs : List A) (x : A) → EachFits fits xs → Has x xs → fits x
EachFits-has fits [] x h k = absurd k
EachFits-has {A = A} fits (y ∷ ys) x h (inl e) = subst fits (sym e) h.0
EachFits-has fits (y ∷ ys) x h (inr k) = EachFits-has fits ys x h.1 k

pub winner_is_tail : (i : Install) (g : List ℕ) (w : Candidate) → HasTails i → Some w ≡ best_of beats (candidates i g i.sources) → IsTail w.part
winner_is_tail i g w h e =
    let c = winner_is_candidate i g w (sym e) in
    EachFits-has IsTail w.source.parts w.part (EachFits-has AreTails i.sources w.source h.each c.0) c.1.0

pub winner_is_named : (i : Install) (g : List ℕ) (w : Candidate) → Some w ≡ best_of beats (candidates i g i.sources) → w.part.name ≡ g
unfolding is_candidate
winner_is_named i g w e =
    let c = winner_is_candidate i g w (sym e) in
    let p = and_true (bytes_eq w.part.name g) (not (is_empty w.part.state.members) || is_some w.part.state.running) c.1.1 in
    (bytes_eq-Decides w.part.name g).0 p.0

-- ---- the search for the leader

leader_of_find : (other : ℕ) (failed ms : List ProviderId) (o : Option ProviderId) → find (λ p. not (among failed p)) ms ≡ o → leader_from other failed ms ≡ leader_or other o
unfolding leader_from
leader_of_find other failed [] o e = subst (λ (z : Option ProviderId). other ≡ leader_or other z) e refl
leader_of_find other failed (m ∷ ms) o e = by (among failed m) e (λ g. leader_of_find other failed ms o g)
  where
    by : (t : Bool) → cond (not t) (Some m) (find (λ p. not (among failed p)) ms) ≡ o → (find (λ p. not (among failed p)) ms ≡ o → leader_from other failed ms ≡ leader_or other o) → (elim t [ true ↦ leader_from other failed ms | false ↦ m.node ]) ≡ leader_or other o
    by true e rec = rec e
    by false e rec = subst (λ (z : Option ProviderId). m.node ≡ leader_or other z) e refl

pub leader_found : (other : ℕ) (failed ms : List ProviderId) (p : ProviderId) → Some p ≡ find (λ p. not (among failed p)) ms → p.node ≡ leader_from other failed ms
leader_found other failed ms p e = sym (leader_of_find other failed ms (Some p) (sym e))

pub leader_none : (other : ℕ) (failed ms : List ProviderId) → None ≡ find (λ p. not (among failed p)) ms → other ≡ leader_from other failed ms
leader_none other failed ms e = sym (leader_of_find other failed ms None (sym e))

-- ---- for the code

pub tail_is_found : (i : Install) (g : List ℕ) (r : Option Winner) → HasTails i → option_map winner_in r ≡ best_of beats (candidates i g i.sources) → IfSome r (λ w. IsTail w.part.now)
tail_is_found i g None h e = tt
tail_is_found i g (Some w) h e = winner_is_tail i g (winner_in w) h e

pub result_is_base : {E : Type 0} (i : Install) (g : List ℕ) (r : Result (Option Base) E) → IsTrue (views_ascend i.sources) → IfOk r (λ o. o ≡ base_of i g) → IfOk r (BaseIs i g)
result_is_base i g (Ok o) asc e = base_is i g o asc e
result_is_base i g (Err x) asc e = tt
