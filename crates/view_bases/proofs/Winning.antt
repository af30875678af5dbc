-- The best candidate wins over all.
use Rattle.std.proofs.Common.{◌≡◌, ℕ, ◌+◌, ◌<◌, ◌≤◌, ◌⊎◌, Bool, true, false, List, [], ◌∷◌, ◌++◌, length, Option, Some, None, refl, sym, ap, subst, ◌∙◌, arith, inl, inr, ⊎_elim, take, get_or, append-nil, append_assoc}
use Rattle.std.specs.Prelude.{IsTrue, map, filter, count_by}
use Rattle.std.specs.Str.{bytes_eq}
use Rattle.std.proofs.lemmas.Bool.{leb-true, leb-false}
use Rattle.std.proofs.lemmas.List.{take_more}
use Rattle.std.proofs.lemmas.List.Elements.{filter-append}
use Rattle.std.proofs.lemmas.List.{map-append, length-append}
use Rattle.std.proofs.lemmas.List.Sums.{length-filter}
use Rattle.rsct_packet.specs.declared.ids.ViewId.{ViewId}
use Rattle.rsct_packet.specs.declared.ids.ProviderId.{ProviderId}
use Rattle.rsct_packet.specs.Ids.{view_lt}
use Rattle.rsct_packet.specs.Lists.{best_from, best_of}
use Rattle.rsct_packet.specs.Search.{Has}
use Rattle.rsct_packet.proofs.HasLaws.{has_filter, filter_has, has_append, append_has_left, append_has_right, has_map, map_has}
use Rattle.rsct_packet.proofs.FieldLaws.{and_true}
use Rattle.view_state.specs.declared.install.Part.{Part}
use Rattle.view_state.specs.declared.install.Source.{Source}
use Rattle.view_state.specs.declared.install.Install.{Install}
use Rattle.view_state.specs.declared.install.Base.{Base}
use Rattle.view_state.specs.Codec.{is_after_view, views_ascend, views_ascend_from}
use Rattle.view_state.specs.Bases.{Candidate, candidate_of, is_candidate, candidates, beats, IsCandidate, live_count, Wins}
use Rattle.view_bases.specs.Best.{found_in, best_step, best_after}
use Rattle.view_state.proofs.ViewOrder.{not_before_itself, not_before_and_after, before_trans}

-- ---- the search from the front

best_goes_on : (a : Candidate) (cs : List Candidate) → Some (best_from beats a cs) ≡ best_after (Some a) cs
best_goes_on a [] = refl
best_goes_on a (c ∷ cs) =
    elim (beats c a) as (λ b. Some (elim b [ true ↦ best_from beats c cs | false ↦ best_from beats a cs ]) ≡ best_after (elim b [ true ↦ Some c | false ↦ Some a ]) cs) [
      | true ↦ best_goes_on c cs
      | false ↦ best_goes_on a cs
    ]

pub best_is : (cs : List Candidate) → best_of beats cs ≡ best_after None cs
best_is [] = refl
best_is (c ∷ cs) = best_goes_on c cs

pub best_after-append : (o : Option Candidate) (xs ys : List Candidate) → best_after o (xs ++ ys) ≡ best_after (best_after o xs) ys
best_after-append o [] ys = refl
best_after-append o (x ∷ xs) ys = best_after-append (best_step o x) xs ys

-- ---- what the best is above

record Leads (w d : Candidate) : Type 0 where
  most : d.live ≤ w.live
  greatest : d.live ≡ w.live → view_lt w.source.view d.source.view ≡ false

-- later ones are of no lesser views
abbrev Ascend : List Candidate → Type 0
Ascend [] = Unit {0}
Ascend (c ∷ cs) = ((d : Candidate) → Has d cs → view_lt d.source.view c.source.view ≡ false) × Ascend cs

abbrev NoLess : Candidate → Candidate → Type 0
NoLess c d = view_lt c.source.view d.source.view ≡ false

leads_itself : (c : Candidate) → Leads c c
leads_itself c = record { most = omega arith; greatest = λ e. not_before_itself c.source.view }

-- a later one that beats the best leads what the best led
leads_more : (c b d : Candidate) → b.live ≤ c.live → Leads b d → NoLess c d → Leads c d
leads_more c b d le h above = let m = h.most in record { most = omega arith; greatest = λ e. above }

-- one that does not beat the best is led by it
led_less : (b c : Candidate) → c.live < b.live → Leads b c
led_less b c lt = record { most = omega arith; greatest = λ e. absurd (omega arith) }

pub record Best (w : Candidate) (seen : Candidate → Type 0) (cs : List Candidate) : Type 0 where
  over_seen : (d : Candidate) → seen d → Leads w d
  over_rest : (d : Candidate) → Has d cs → Leads w d
  there : seen w ⊎ Has w cs

best_leads : (seen : Candidate → Type 0) (cs : List Candidate) (b w : Candidate) → seen b → ((d : Candidate) → seen d → Leads b d) → ((d : Candidate) → seen d → (c : Candidate) → Has c cs → NoLess c d) → Ascend cs → best_after (Some b) cs ≡ Some w → Best w seen cs
best_leads seen [] b w sb leads above asc e =
    let same : b ≡ w = cc in
    subst (λ (x : Candidate). Best x seen []) same (record { over_seen = leads; over_rest = λ d h. absurd h; there = inl sb })
best_leads seen (c ∷ cs) b w sb leads above asc e =
    by (beats c b) refl e
    (λ x nx lead g.
    best_leads (λ d. seen d ⊎ (d ≡ c)) cs x w nx lead
    (λ d s k h. ⊎_elim (λ (a : seen d). above d a k (inr h)) (λ (a : d ≡ c). subst (λ (z : Candidate). NoLess k z) (sym a) (asc.0 k h)) s)
    asc.1
    g)
  where
    from : Best w (λ d. seen d ⊎ (d ≡ c)) cs → Best w seen (c ∷ cs)
    from r = record {
      over_seen = λ d s. r.over_seen d (inl s);
      over_rest = λ d h. ⊎_elim (λ (s : d ≡ c). r.over_seen d (inr s)) (λ (t : Has d cs). r.over_rest d t) h;
      there = ⊎_elim (λ (s : seen w ⊎ (w ≡ c)). ⊎_elim (λ (a : seen w). inl a) (λ (a : w ≡ c). inr (inl a)) s) (λ (t : Has w cs). inr (inr t)) r.there;
    }

    by : (t : Bool) → beats c b ≡ t → best_after (elim t [ true ↦ Some c | false ↦ Some b ]) cs ≡ Some w → ((x : Candidate) → seen x ⊎ (x ≡ c) → ((d : Candidate) → seen d ⊎ (d ≡ c) → Leads x d) → best_after (Some x) cs ≡ Some w → Best w (λ d. seen d ⊎ (d ≡ c)) cs) → Best w seen (c ∷ cs)
    by true f e rec =
        from
        (rec c (inr refl)
        (λ d s.
        ⊎_elim (λ (a : seen d). leads_more c b d (leb-true b.live c.live f) (leads d a) (above d a c (inl refl)))
        (λ (a : d ≡ c). subst (λ (z : Candidate). Leads c z) (sym a) (leads_itself c)) s)
        e)
    by false f e rec =
        from
        (rec b (inl sb)
        (λ d s.
        ⊎_elim (λ (a : seen d). leads d a)
        (λ (a : d ≡ c). subst (λ (z : Candidate). Leads b z) (sym a) (led_less b c (leb-false b.live c.live f))) s)
        e)

-- ---- who is a candidate

found_has : (i : Install) (g : List ℕ) (s : Source) (p : Part) (ps : List Part) → Has p ps → is_candidate g p ≡ true → Has (candidate_of i s p) (found_in i g s ps)
found_has i g s p ps h e = map_has (candidate_of i s) p (filter (is_candidate g) ps) (filter_has (is_candidate g) p ps h e)

in_candidates : (i : Install) (g : List ℕ) (ss : List Source) (s : Source) (p : Part) → Has s ss → Has p s.parts → is_candidate g p ≡ true → Has (candidate_of i s p) (candidates i g ss)
unfolding candidates
in_candidates i g [] s p h k e = absurd h
in_candidates i g (t ∷ ss) s p (inl same) k e =
    append_has_left (candidate_of i s p) (found_in i g t t.parts) (candidates i g ss)
    (subst (λ (z : Source). Has (candidate_of i s p) (found_in i g z z.parts)) same (found_has i g s p s.parts k e))
in_candidates i g (t ∷ ss) s p (inr h) k e =
    append_has_right (candidate_of i s p) (found_in i g t t.parts) (candidates i g ss) (in_candidates i g ss s p h k e)

record Comes (i : Install) (g : List ℕ) (ss : List Source) (c : Candidate) : Type 0 where
  source : Source
  part : Part
  in_sources : Has source ss
  in_parts : Has part source.parts
  passes : is_candidate g part ≡ true
  is : c ≡ candidate_of i source part

found_comes : (i : Install) (g : List ℕ) (s : Source) (ss : List Source) (c : Candidate) → Has s ss → Has c (found_in i g s s.parts) → Comes i g ss c
found_comes i g s ss c h k =
    let m = has_map (candidate_of i s) c (filter (is_candidate g) s.parts) k in
    let f = has_filter (is_candidate g) m.0 s.parts m.1 in
    record { source = s; part = m.0; in_sources = h; in_parts = f.0; passes = f.1; is = m.2 }

of_candidates : (i : Install) (g : List ℕ) (ss : List Source) (c : Candidate) → Has c (candidates i g ss) → Comes i g ss c
unfolding candidates
of_candidates i g [] c h = absurd h
of_candidates i g (s ∷ ss) c h =
    ⊎_elim (λ (k : Has c (found_in i g s s.parts)). found_comes i g s (s ∷ ss) c (inl refl) k)
    (λ (k : Has c (candidates i g ss)).
    let r = of_candidates i g ss c k in
    record { source = r.source; part = r.part; in_sources = inr r.in_sources; in_parts = r.in_parts; passes = r.passes; is = r.is })
    (has_append c (found_in i g s s.parts) (candidates i g ss) h)

source_of_candidate : (i : Install) (s : Source) (p : Part) → (candidate_of i s p).source ≡ s
unfolding candidate_of
source_of_candidate i s p = refl

part_of_candidate : (i : Install) (s : Source) (p : Part) → (candidate_of i s p).part ≡ p
unfolding candidate_of
part_of_candidate i s p = refl

live_of_candidate : (i : Install) (s : Source) (p : Part) → (candidate_of i s p).live ≡ live_count i s p
unfolding candidate_of
live_of_candidate i s p = refl

-- ---- their views ascend

all_after : (v : ViewId) (ss : List Source) (t : Source) → IsTrue (views_ascend_from (Some v) ss) → Has t ss → view_lt v t.view ≡ true
all_after v [] t asc h = absurd h
all_after v (s ∷ ss) t asc h =
    let p = and_true (view_lt v s.view) (views_ascend_from (Some s.view) ss) asc in
    ⊎_elim (λ (e : t ≡ s). subst (λ (z : Source). view_lt v z.view ≡ true) (sym e) p.0)
    (λ (k : Has t ss). before_trans v s.view t.view p.0 (all_after s.view ss t p.1 k)) h

ascend_append : (xs ys : List Candidate) → Ascend xs → Ascend ys → ((x : Candidate) → Has x xs → (y : Candidate) → Has y ys → NoLess y x) → Ascend (xs ++ ys)
ascend_append [] ys a b over = b
ascend_append (x ∷ xs) ys a b over = (
  λ d h.
      ⊎_elim (λ (k : Has d xs). a.0 d k) (λ (k : Has d ys). over x (inl refl) d k) (has_append d xs ys h),
  ascend_append xs ys a.1 b (λ z k y m. over z (inr k) y m),
)

ascend_same : (v : ViewId) (xs : List Candidate) → ((x : Candidate) → Has x xs → x.source.view ≡ v) → Ascend xs
ascend_same v [] all = tt
ascend_same v (x ∷ xs) all =
    (λ d h. let p = all d (inr h) in let q = all x (inl refl) in rw (p, q) (not_before_itself v), ascend_same v xs (λ z k. all z (inr k)))

found_of : (i : Install) (g : List ℕ) (s : Source) (c : Candidate) → Has c (found_in i g s s.parts) → c.source ≡ s
found_of i g s c k =
    let m = has_map (candidate_of i s) c (filter (is_candidate g) s.parts) k in
    ap (λ (z : Candidate). z.source) m.2 ∙ source_of_candidate i s m.0

candidates_ascend : (i : Install) (g : List ℕ) (last : Option ViewId) (ss : List Source) → IsTrue (views_ascend_from last ss) → Ascend (candidates i g ss)
unfolding candidates
candidates_ascend i g last [] asc = tt
candidates_ascend i g last (s ∷ ss) asc =
    let p = and_true (is_after_view last s.view) (views_ascend_from (Some s.view) ss) asc in
    ascend_append (found_in i g s s.parts) (candidates i g ss)
    (ascend_same s.view (found_in i g s s.parts) (λ x h. ap (λ (z : Source). z.view) (found_of i g s x h)))
    (candidates_ascend i g (Some s.view) ss p.1)
    (λ x h y k.
    let r = of_candidates i g ss y k in
    let from : y.source ≡ r.source = ap (λ (z : Candidate). z.source) r.is ∙ source_of_candidate i r.source r.part in
    let here : x.source ≡ s = found_of i g s x h in
    let later : view_lt s.view r.source.view ≡ true = all_after s.view ss r.source p.1 r.in_sources in
    rw (from, here) (not_before_and_after s.view r.source.view later))

-- ---- the winner

best_of_all : (cs : List Candidate) (w : Candidate) → Ascend cs → best_of beats cs ≡ Some w → ((d : Candidate) → Has d cs → Leads w d) × Has w cs
best_of_all [] w asc e = absurd cc
best_of_all (c ∷ cs) w asc e =
    let seen : Candidate → Type 0 = λ d. d ≡ c in
    let r = best_leads seen cs c w refl (λ d s. subst (λ (z : Candidate). Leads c z) (sym s) (leads_itself c))
    (λ d s k h. subst (λ (z : Candidate). NoLess k z) (sym s) (asc.0 k h)) asc.1 (sym (best_is (c ∷ cs)) ∙ e) in (
      λ d h. ⊎_elim (λ (s : d ≡ c). r.over_seen d s) (λ (t : Has d cs). r.over_rest d t) h,
      ⊎_elim (λ (s : w ≡ c). inl s) (λ (t : Has w cs). inr t) r.there,
    )

pub winner_wins : (i : Install) (g : List ℕ) (w : Candidate) → IsTrue (views_ascend i.sources) → best_of beats (candidates i g i.sources) ≡ Some w → Wins i g w.source w.part
winner_wins i g w asc e =
    let r = best_of_all (candidates i g i.sources) w (candidates_ascend i g None i.sources asc) e in
    let c = of_candidates i g i.sources w r.1 in
    let s_is : c.source ≡ w.source = sym (ap (λ (z : Candidate). z.source) c.is ∙ source_of_candidate i c.source c.part) in
    let p_is : c.part ≡ w.part = sym (ap (λ (z : Candidate). z.part) c.is ∙ part_of_candidate i c.source c.part) in
    let live : w.live ≡ live_count i c.source c.part = ap (λ (z : Candidate). z.live) c.is ∙ live_of_candidate i c.source c.part in
    let wins : Wins i g c.source c.part =
    record {
      candidate = (c.in_sources, (c.in_parts, c.passes));
      most = λ t q h.
          let d = r.0 (candidate_of i t q) (in_candidates i g i.sources t q h.0 h.1.0 h.1.1) in
          let m = d.most in
          let l = live_of_candidate i t q in
          omega arith;
      greatest = λ t q h same.
          let d = r.0 (candidate_of i t q) (in_candidates i g i.sources t q h.0 h.1.0 h.1.1) in
          let l = live_of_candidate i t q in
          let even : (candidate_of i t q).live ≡ w.live = omega arith in
          subst (λ (z : Source). view_lt c.source.view z.view ≡ false) (source_of_candidate i t q)
          (subst (λ (z : Source). view_lt z.view (candidate_of i t q).source.view ≡ false) (sym s_is) (d.greatest even));
    }
    in
    subst (λ (z : Source). Wins i g z w.part) s_is (subst (λ (z : Part). Wins i g c.source z) p_is wins)

-- ---- who the winner is, whatever the order of views

best_among : (b w : Candidate) (cs : List Candidate) → best_after (Some b) cs ≡ Some w → (w ≡ b) ⊎ Has w cs
best_among b w [] e = let same : w ≡ b = cc in inl same
best_among b w (c ∷ cs) e =
    by (beats c b) e (λ x g. best_among x w cs g)
  where
    by : (t : Bool) → best_after (elim t [ true ↦ Some c | false ↦ Some b ]) cs ≡ Some w → ((x : Candidate) → best_after (Some x) cs ≡ Some w → (w ≡ x) ⊎ Has w cs) → (w ≡ b) ⊎ Has w (c ∷ cs)
    by true e rec = ⊎_elim (λ (s : w ≡ c). inr (inl s)) (λ (t : Has w cs). inr (inr t)) (rec c e)
    by false e rec = ⊎_elim (λ (s : w ≡ b). inl s) (λ (t : Has w cs). inr (inr t)) (rec b e)

best_has : (cs : List Candidate) (w : Candidate) → best_of beats cs ≡ Some w → Has w cs
best_has [] w e = absurd cc
best_has (c ∷ cs) w e = ⊎_elim (λ (s : w ≡ c). inl s) (λ (t : Has w cs). inr t) (best_among c w cs (sym (best_is (c ∷ cs)) ∙ e))

pub winner_is_candidate : (i : Install) (g : List ℕ) (w : Candidate) → best_of beats (candidates i g i.sources) ≡ Some w → IsCandidate i g w.source w.part
winner_is_candidate i g w e =
    let c = of_candidates i g i.sources w (best_has (candidates i g i.sources) w e) in
    let s_is : c.source ≡ w.source = sym (ap (λ (z : Candidate). z.source) c.is ∙ source_of_candidate i c.source c.part) in
    let p_is : c.part ≡ w.part = sym (ap (λ (z : Candidate). z.part) c.is ∙ part_of_candidate i c.source c.part) in
    subst (λ (z : Source). IsCandidate i g z w.part) s_is (subst (λ (z : Part). IsCandidate i g c.source z) p_is (c.in_sources, (c.in_parts, c.passes)))

pub none_is_candidate : (i : Install) (g : List ℕ) (s : Source) (p : Part) → best_of beats (candidates i g i.sources) ≡ None → IsCandidate i g s p → ⊥
none_is_candidate i g s p e h =
    by (candidates i g i.sources) e (in_candidates i g i.sources s p h.0 h.1.0 h.1.1)
  where
    by : (cs : List Candidate) → best_of beats cs ≡ None → Has (candidate_of i s p) cs → ⊥
    by [] e k = k
    by (c ∷ cs) e k = cc

-- ---- the loops

pub found_taken : (i : Install) (g : List ℕ) (s : Source) (o : Option Candidate) (ps : List Part) (k : ℕ) (p : Part) → k < length ps → p ≡ get_or ps k p → is_candidate g p ≡ true → best_after o (found_in i g s (take (k + 1) ps)) ≡ best_step (best_after o (found_in i g s (take k ps))) (candidate_of i s p)
found_taken i g s o ps k p lt is test =
    rw (take_more ps k p lt, ← is, filter-append, map-append, best_after-append, test) refl

pub found_left : (i : Install) (g : List ℕ) (s : Source) (o : Option Candidate) (ps : List Part) (k : ℕ) (p : Part) → k < length ps → p ≡ get_or ps k p → is_candidate g p ≡ false → best_after o (found_in i g s (take (k + 1) ps)) ≡ best_after o (found_in i g s (take k ps))
found_left i g s o ps k p lt is test =
    rw (take_more ps k p lt, ← is, filter-append, map-append, best_after-append, test) refl

candidates-append : (i : Install) (g : List ℕ) (ss : List Source) (s : Source) → candidates i g (ss ++ s ∷ []) ≡ candidates i g ss ++ found_in i g s s.parts
unfolding candidates
candidates-append i g [] s = append-nil (found_in i g s s.parts)
candidates-append i g (t ∷ ss) s =
    ap (λ (cs : List Candidate). found_in i g t t.parts ++ cs) (candidates-append i g ss s)
    ∙ sym (append_assoc (found_in i g t t.parts) (candidates i g ss) (found_in i g s s.parts))

pub candidates_taken : (i : Install) (g : List ℕ) (o : Option Candidate) (ss : List Source) (k : ℕ) (s : Source) → k < length ss → s ≡ get_or ss k s → best_after o (candidates i g (take (k + 1) ss)) ≡ best_after (best_after o (candidates i g (take k ss))) (found_in i g s s.parts)
candidates_taken i g o ss k s lt is =
    rw (take_more ss k s lt, ← is, candidates-append i g (take k ss) s, best_after-append) refl

pub none_yet : (i : Install) (g : List ℕ) → best_after None (candidates i g []) ≡ None
unfolding candidates
none_yet i g = refl

pub live_both : (f : ProviderId → Bool) (xs ys : List ProviderId) → length (filter f xs) + length (filter f ys) ≡ length (filter f (xs ++ ys))
live_both f xs ys = rw (filter-append, length-append) refl

pub count_is_length : (f : ProviderId → Bool) (xs : List ProviderId) → count_by f xs ≡ length (filter f xs)
count_is_length f xs = sym (length-filter f xs)
