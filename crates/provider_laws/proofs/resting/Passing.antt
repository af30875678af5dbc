-- The end of a step leaves each led group at rest, and where each rests it changes nothing.
use Rattle.std.proofs.Common.{◌≡◌, ◌≤◌, ◌<◌, ◌⊎◌, ℕ, zero, suc, ◌+◌, ◌*◌, List, [], ◌∷◌, length, fold, Bool, true, false, refl, sym, ap, ◌∙◌, subst, inl, inr, arith}
use Rattle.std.specs.Prelude.{◌-◌}
use Rattle.rsct_packet.specs.Search.{Has}
use Rattle.node_state.specs.declared.state.Core.{Core}
use Rattle.node_state.specs.State.{row_of, list_of, len_of, led_groups}
use Rattle.node_state.specs.HandOn.{Answering}
use Rattle.node_state.specs.Ending.{Pass, quiet, may_begin, first_begins, group_begins, one_pass, passes}
use Rattle.node_state.proofs.NameOrder.{cases_text}
use Rattle.provider_laws.proofs.resting.Orderly.{Orderly, row_few}
use Rattle.provider_laws.proofs.resting.Onward.{IsNamed, Onward, self, onward_then, named_on, led_same, led_named}
use Rattle.provider_laws.proofs.resting.Trying.{Rest, rest_on, Still, still_self, still_then, len_still, len_still_at, count, Outcome, Grown, Used, Rests}
use Rattle.provider_laws.proofs.resting.Settling.{first_try, may_below, rest_first}

-- ---- one group

-- all tries in a group: its list has grown, or nothing more begins there
pub data Tries (g : List ℕ) (s : Core) (q : Pass) : Type 0 where
  Longer : Onward s q.core → q.began ≡ true → len_of s g < 4096 → len_of s g < len_of q.core g → Tries g s q
  Done : Still g s q.core → Rest q.core g → Tries g s q

onward_of : (g : List ℕ) (s : Core) (q : Pass) → Outcome g s q → Onward s q.core
onward_of g s q (Grown a e less) = a
onward_of g s q (Used a e less) = a.onward
onward_of g s q (Rests a r) = a.onward

first_onward : (f : Answering) (s : Core) (g : List ℕ) → Orderly s → IsNamed s g → Onward s (first_begins f s g (row_of s g)).core
first_onward f s g k named = by (may_begin (list_of s g)) refl
  where
    by : (b : Bool) → may_begin (list_of s g) ≡ b → Onward s (first_begins f s g (row_of s g)).core
    by true e = onward_of g s (first_begins f s g (row_of s g)) ((first_try f s g k named).0 e)
    by false e = subst (λ (z : Pass). Onward s z.core) (sym ((first_try f s g k named).1 e)) (self s k)

group_onward : (n : ℕ) (f : Answering) (g : List ℕ) (p : Pass) → Orderly p.core → IsNamed p.core g → Onward p.core (group_begins n f g p).core × (p.began ≡ true → (group_begins n f g p).began ≡ true)
unfolding group_begins
group_onward zero f g p k named = (self p.core k, λ e. e)
group_onward (suc n) f g p k named = by q.began refl (group_onward n f g q a.orderly (named_on p.core q.core g a named))
  where
    q : Pass
    q = first_begins f p.core g (row_of p.core g)

    a : Onward p.core q.core
    a = first_onward f p.core g k named

    by : (b : Bool) → q.began ≡ b → Onward q.core (group_begins n f g q).core × (q.began ≡ true → (group_begins n f g q).began ≡ true) → Onward p.core (elim b as (λ _. Pass) [ true ↦ group_begins n f g q | false ↦ record { core = q.core; began = p.began } ]).core × (p.began ≡ true → (elim b as (λ _. Pass) [ true ↦ group_begins n f g q | false ↦ record { core = q.core; began = p.began } ]).began ≡ true)
    by true e r = (onward_then p.core q.core (group_begins n f g q).core a r.0, λ _. r.1 e)
    by false e r = (a, λ z. z)

-- where the group rests, it stays as it is
group_rests : (n : ℕ) (f : Answering) (g : List ℕ) (p : Pass) → Rest p.core g → (group_begins n f g p).core ≡ p.core
unfolding group_begins
group_rests zero f g p k = refl
group_rests (suc n) f g p k = by q.began (group_rests n f g q (subst (λ (c : Core). Rest c g) (sym same) k))
  where
    q : Pass
    q = first_begins f p.core g (row_of p.core g)

    same : q.core ≡ p.core
    same = rest_first f p.core g k

    by : (b : Bool) → (group_begins n f g q).core ≡ q.core → (elim b as (λ _. Pass) [ true ↦ group_begins n f g q | false ↦ record { core = q.core; began = p.began } ]).core ≡ p.core
    by true r = r ∙ same
    by false r = same

-- what is left to be shown after the first of several tries
abbrev GoesOn : List ℕ → Pass → Pass → Pass → Bool → Type 0
GoesOn g p q r b = Tries g p.core (elim b as (λ _. Pass) [ true ↦ r | false ↦ record { core = q.core; began = p.began } ])

group_try : (n : ℕ) (f : Answering) (g : List ℕ) (p : Pass) → Orderly p.core → IsNamed p.core g → count p.core g < n → Tries g p.core (group_begins n f g p)
unfolding group_begins list_of len_of row_of
group_try zero f g p k named few = absurd (omega (arith, few))
group_try (suc n) f g p k named few = may (may_begin (list_of p.core g)) refl (group_try n f g)
  where
    q : Pass
    q = first_begins f p.core g (row_of p.core g)

    -- the list has grown
    grown : (b : Bool) → q.began ≡ b → Onward p.core q.core → q.began ≡ true → len_of p.core g < 4096 → len_of p.core g < len_of q.core g → GoesOn g p q (group_begins n f g q) b
    grown false e a began lim less = absurd (let z : true ≡ false = sym began ∙ e in cc)
    grown true e a began lim less =
        let r = group_onward n f g q a.orderly (named_on p.core q.core g a named) in
        let m = r.0.lens g in
        Longer (onward_then p.core q.core (group_begins n f g q).core a r.0) (r.1 began) lim (omega (arith, less, m))

    -- less waits
    used : (b : Bool) → q.began ≡ b → Still g p.core q.core → q.began ≡ true → (count q.core g < n → Tries g q.core (group_begins n f g q)) → count q.core g < count p.core g → GoesOn g p q (group_begins n f g q) b
    used false e a began rest less = absurd (let z : true ≡ false = sym began ∙ e in cc)
    used true e a began rest less = on (rest (omega (arith, few, less)))
      where
        on : Tries g q.core (group_begins n f g q) → Tries g p.core (group_begins n f g q)
        on (Longer c e lim m) = let z = len_still g p.core q.core a in Longer (onward_then p.core q.core (group_begins n f g q).core a.onward c) e (omega (arith, z, lim)) (omega (arith, z, m))
        on (Done c r) = Done (still_then g p.core q.core (group_begins n f g q).core a c) r

    -- the group rests
    rests : (b : Bool) → Still g p.core q.core → Rest q.core g → GoesOn g p q (group_begins n f g q) b
    rests false a r = Done a r
    rests true a r =
        let same : (group_begins n f g q).core ≡ q.core = group_rests n f g q r in
        Done (subst (Still g p.core) (sym same) a) (subst (λ (c : Core). Rest c g) (sym same) r)

    by : ((r : Pass) → Orderly r.core → IsNamed r.core g → count r.core g < n → Tries g r.core (group_begins n f g r)) → Outcome g p.core q → len_of p.core g < 4096 → GoesOn g p q (group_begins n f g q) q.began
    by rest (Grown a e less) lim = grown q.began refl a e lim less
    by rest (Used a e less) lim = used q.began refl a e (rest q a.onward.orderly (named_on p.core q.core g a.onward named)) less
    by rest (Rests a r) lim = rests q.began a r

    may : (m : Bool) → may_begin (list_of p.core g) ≡ m → ((r : Pass) → Orderly r.core → IsNamed r.core g → count r.core g < n → Tries g r.core (group_begins n f g r)) → GoesOn g p q (group_begins n f g q) q.began
    may true e rest = by rest ((first_try f p.core g k named).0 e) (may_below (list_of p.core g) e)
    may false e rest =
        let same : q ≡ quiet p.core = (first_try f p.core g k named).1 e in
        let core : q.core ≡ p.core = ap (λ (z : Pass). z.core) same in
        rests q.began (subst (Still g p.core) (sym core) (still_self g p.core k)) (subst (λ (c : Core). Rest c g) (sym core) (λ z. absurd (let y : true ≡ false = sym z ∙ e in cc)))

-- ---- one pass

-- how many places are left in these groups' lists
abbrev pub room : Core → List (List ℕ) → ℕ
room s [] = 0
room s (g ∷ gs) = (4096 - len_of s g) + room s gs

room_on : (s t : Core) (gs : List (List ℕ)) → Onward s t → room t gs ≤ room s gs
room_on s t [] a = omega arith
room_on s t (g ∷ gs) a = let h = room_on s t gs a in let m = a.lens g in omega (arith, h, m)

room_less : (s t : Core) (g : List ℕ) (gs : List (List ℕ)) → Onward s t → Has g gs → len_of s g < 4096 → len_of s g < len_of t g → room t gs < room s gs
room_less s t g [] a i lim less = absurd i
room_less s t g (h ∷ gs) a (inl e) lim less =
    let k = room_on s t gs a in
    let lim' : len_of s h < 4096 = subst (λ z. len_of s z < 4096) e lim in
    let less' : len_of s h < len_of t h = subst (λ z. len_of s z < len_of t z) e less in omega (arith, k, lim', less')
room_less s t g (h ∷ gs) a (inr i) lim less = let k = room_less s t g gs a i lim less in let m = a.lens h in omega (arith, k, m)

pub room_most : (s : Core) (gs : List (List ℕ)) → room s gs ≤ 4096 * length gs
room_most s [] = omega arith
room_most s (g ∷ gs) = let h = room_most s gs in omega (arith, h)

-- what is kept where no list grows
record Kept (s t : Core) : Type 0 where
  pub onward : Onward s t
  pub lens : (h : List ℕ) → len_of t h ≡ len_of s h
  pub rests : (h : List ℕ) → Rest s h → Rest t h

kept_still : (g : List ℕ) (s t : Core) → Still g s t → Rest t g → Kept s t
kept_still g s t a r = record { onward = a.onward; lens = λ h. len_still_at g s t a h; rests = λ h k. by h k (cases_text g h) }
  where
    by : (h : List ℕ) → Rest s h → (g ≡ h) ⊎ (g ≡ h → ⊥) → Rest t h
    by h k (inl e) = subst (Rest t) e r
    by h k (inr ne) = rest_on s t h a.lists (a.others h ne) k

data Passed (gs : List (List ℕ)) (s : Core) (q : Pass) : Type 0 where
  Fuller : Onward s q.core → q.began ≡ true → (g : List ℕ) → Has g gs → len_of s g < 4096 → len_of s g < len_of q.core g → Passed gs s q
  Settles : Kept s q.core → ((g : List ℕ) → Has g gs → Rest q.core g) → Passed gs s q

module _ (most : ℕ) (f : Answering) (plenty : 128 < most) where
  abbrev through : List (List ℕ) → Pass → Pass
  through gs p = fold (λ q g. group_begins most f g q) p gs

  through_onward : (gs : List (List ℕ)) (p : Pass) → Orderly p.core → ((g : List ℕ) → Has g gs → IsNamed p.core g) → Onward p.core (through gs p).core × (p.began ≡ true → (through gs p).began ≡ true)
  through_onward [] p k named = (self p.core k, λ e. e)
  through_onward (g ∷ gs) p k named =
      let q : Pass = group_begins most f g p in
      let a = group_onward most f g p k (named g (inl refl)) in
      let r = through_onward gs q a.0.orderly (λ h i. named_on p.core q.core h a.0 (named h (inr i))) in
      (onward_then p.core q.core (through gs q).core a.0 r.0, λ e. r.1 (a.1 e))

  pass_try : (gs : List (List ℕ)) (p : Pass) → Orderly p.core → ((g : List ℕ) → Has g gs → IsNamed p.core g) → Passed gs p.core (through gs p)
  pass_try [] p k named = Settles (record { onward = self p.core k; lens = λ h. refl; rests = λ h r. r }) (λ g i. absurd i)
  pass_try (g ∷ gs) p k named = by (group_try most f g p k (named g (inl refl)) (let w = row_few p.core g k.few in let a = w.0 in let b = w.1 in omega (arith, a, b, plenty))) (pass_try gs (group_begins most f g p))
    where
      q : Pass
      q = group_begins most f g p

      on : Onward p.core q.core → (h : List ℕ) → Has h gs → IsNamed q.core h
      on a h i = named_on p.core q.core h a (named h (inr i))

      next : Still g p.core q.core → Rest q.core g → Passed gs q.core (through gs q) → Passed (g ∷ gs) p.core (through gs q)
      next a r (Fuller c e h i lim less) = let z = len_still_at g p.core q.core a h in Fuller (onward_then p.core q.core (through gs q).core a.onward c) e h (inr i) (omega (arith, z, lim)) (omega (arith, z, less))
      next a r (Settles c all) = Settles (record { onward = onward_then p.core q.core (through gs q).core a.onward c.onward; lens = λ h. c.lens h ∙ (kept_still g p.core q.core a r).lens h; rests = λ h k. c.rests h ((kept_still g p.core q.core a r).rests h k) }) each
        where
          each : (h : List ℕ) → Has h (g ∷ gs) → Rest (through gs q).core h
          each h (inl e) = subst (Rest (through gs q).core) (sym e) (c.rests g r)
          each h (inr i) = all h i

      by : Tries g p.core q → (Orderly q.core → ((h : List ℕ) → Has h gs → IsNamed q.core h) → Passed gs q.core (through gs q)) → Passed (g ∷ gs) p.core (through gs q)
      by (Longer a e lim less) rest =
          let r = through_onward gs q a.orderly (on a) in
          let m = r.0.lens g in
          Fuller (onward_then p.core q.core (through gs q).core a r.0) (r.1 e) g (inl refl) lim (omega (arith, less, m))
      by (Done a r) rest = next a r (rest a.onward.orderly (on a.onward))

  through_rests : (gs : List (List ℕ)) (p : Pass) → ((g : List ℕ) → Has g gs → Rest p.core g) → (through gs p).core ≡ p.core
  through_rests [] p all = refl
  through_rests (g ∷ gs) p all =
      let q : Pass = group_begins most f g p in
      let same : q.core ≡ p.core = group_rests most f g p (all g (inl refl)) in
      through_rests gs q (λ h i. subst (λ (c : Core). Rest c h) (sym same) (all h (inr i))) ∙ same

-- ---- all passes

-- each group that the node leads rests
abbrev pub AllRest : Core → Type 0
AllRest s = (g : List ℕ) → Has g (led_groups s) → Rest s g

-- where one pass changes nothing, none does
pub passes_same : (n most : ℕ) (f : Answering) (s : Core) → (one_pass most f s).core ≡ s → passes n most f s ≡ s
unfolding passes
passes_same zero most f s same = refl
passes_same (suc n) most f s same = by p.began (passes_same n most f p.core (subst (λ c. (one_pass most f c).core ≡ c) (sym same) same))
  where
    p : Pass
    p = one_pass most f s

    by : (b : Bool) → passes n most f p.core ≡ p.core → (elim b as (λ _. Core) [ true ↦ passes n most f p.core | false ↦ p.core ]) ≡ s
    by true r = r ∙ same
    by false r = same

pub passes_rest : (n most : ℕ) (f : Answering) (s : Core) → 128 < most → AllRest s → passes n most f s ≡ s
unfolding one_pass
passes_rest n most f s plenty all = passes_same n most f s (through_rests most f plenty (led_groups s) (quiet s) all)

pub passes_onward : (n most : ℕ) (f : Answering) (s : Core) → 128 < most → Orderly s → Onward s (passes n most f s)
unfolding passes one_pass
passes_onward zero most f s plenty k = self s k
passes_onward (suc n) most f s plenty k = by p.began (passes_onward n most f p.core plenty a.orderly)
  where
    p : Pass
    p = one_pass most f s

    a : Onward s p.core
    a = (through_onward most f plenty (led_groups s) (quiet s) k (λ g i. led_named s g i)).0

    by : (b : Bool) → Onward p.core (passes n most f p.core) → Onward s (elim b as (λ _. Core) [ true ↦ passes n most f p.core | false ↦ p.core ])
    by true r = onward_then s p.core (passes n most f p.core) a r
    by false r = a

pub passes_settle : (n most : ℕ) (f : Answering) (s : Core) → 128 < most → Orderly s → room s (led_groups s) < n → AllRest (passes n most f s)
unfolding passes one_pass
passes_settle zero most f s plenty k few = absurd (omega (arith, few))
passes_settle (suc n) most f s plenty k few = by (pass_try most f plenty (led_groups s) (quiet s) k (λ g i. led_named s g i)) (passes_settle n most f p.core plenty)
  where
    p : Pass
    p = one_pass most f s

    led : Onward s p.core → led_groups p.core ≡ led_groups s
    led a = led_same s p.core a.bones a.views a.config

    fuller : (b : Bool) → p.began ≡ b → p.began ≡ true → AllRest (passes n most f p.core) → AllRest (elim b as (λ _. Core) [ true ↦ passes n most f p.core | false ↦ p.core ])
    fuller false e q r = absurd (let z : true ≡ false = sym q ∙ e in cc)
    fuller true e q r = r

    settles : (b : Bool) → AllRest p.core → AllRest (elim b as (λ _. Core) [ true ↦ passes n most f p.core | false ↦ p.core ])
    settles false r = r
    settles true r = subst AllRest (sym (passes_rest n most f p.core plenty r)) r

    by : Passed (led_groups s) s p → (Orderly p.core → room p.core (led_groups p.core) < n → AllRest (passes n most f p.core)) → AllRest (elim p.began as (λ _. Core) [ true ↦ passes n most f p.core | false ↦ p.core ])
    by (Fuller a e g i lim less) rest =
        let m : room p.core (led_groups s) < room s (led_groups s) = room_less s p.core g (led_groups s) a i lim less in
        fuller p.began refl e (rest a.orderly (subst (λ gs. room p.core gs < n) (sym (led a)) (omega (arith, m, few))))
    by (Settles a all) rest = settles p.began (λ g i. all g (subst (Has g) (led a.onward) i))
