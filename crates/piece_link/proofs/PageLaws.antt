-- Slots in their pages: what a page made or a slot filled changes.
use Rattle.std.proofs.Common.{◌≡◌, ◌≢◌, ℕ, zero, suc, ◌≤◌, ◌<◌, ◌/◌, ◌%◌, Option, Some, None, ◌⊎◌, List, [], ◌∷◌, ◌++◌, length, get_or, set, take, replicate, inl, inr, refl, sym, ◌∙◌, ap, subst, arith, append-nil, get_or-set_same, get_or-set_other, length-set}
use Rattle.std.specs.Global.{Vec}
use Rattle.std.proofs.lemmas.Bool.{cases_lt}
use Rattle.std.proofs.lemmas.List.{take_all}
use Rattle.piece_link.specs.declared.slots.Place.{Place}
use Rattle.piece_link.specs.declared.slots.Slots.{Slots}
use Rattle.piece_link.specs.Slots.{Page, page_at, slot_at, HasSlot}

abbrev pub Pages : Type 0
Pages = List (Vec (Option Place))

pub page_pushed : (pages : Pages) (page : Vec (Option Place)) (at : ℕ) → page.items ≡ [] → page_at (pages ++ page ∷ []) at ≡ page_at pages at
page_pushed [] page zero e = e
page_pushed [] page (suc at) e = refl
page_pushed (p ∷ pages) page zero e = refl
page_pushed (p ∷ pages) page (suc at) e = page_pushed pages page at e

page_set : (pages : Pages) (page : Vec (Option Place)) (at : ℕ) → at < length pages → page_at (set pages at page) at ≡ page.items
page_set [] page at lt = absurd (omega arith)
page_set (p ∷ pages) page zero lt = refl
page_set (p ∷ pages) page (suc at) lt = page_set pages page at (omega arith)

page_set_other : (pages : Pages) (page : Vec (Option Place)) (at k : ℕ) → k ≢ at → page_at (set pages at page) k ≡ page_at pages k
page_set_other [] page at k ne = refl
page_set_other (p ∷ pages) page zero zero ne = absurd (ne refl)
page_set_other (p ∷ pages) page zero (suc k) ne = refl
page_set_other (p ∷ pages) page (suc at) zero ne = refl
page_set_other (p ∷ pages) page (suc at) (suc k) ne = page_set_other pages page at k (λ e. ne (ap suc e))

pub page_is : (pages : Pages) (at : ℕ) (d : Vec (Option Place)) → at < length pages → page_at pages at ≡ (get_or pages at d).items
page_is [] at d lt = absurd (omega arith)
page_is (p ∷ pages) zero d lt = refl
page_is (p ∷ pages) (suc at) d lt = page_is pages at d (omega arith)

pub page_none : (pages : Pages) (at : ℕ) → length pages ≤ at → page_at pages at ≡ []
page_none [] at le = refl
page_none (p ∷ pages) zero le = absurd (omega arith)
page_none (p ∷ pages) (suc at) le = page_none pages at (omega arith)

past_page : (page : Page) (n k : ℕ) → get_or (page ++ replicate n None) k None ≡ get_or page k None
past_page [] zero k = refl
past_page [] (suc n) zero = refl
past_page [] (suc n) (suc k) = past_page [] n k
past_page (slot ∷ page) n zero = refl
past_page (slot ∷ page) n (suc k) = past_page page n k

-- a page pushed, with no slots
pub slots_pushed : (s t : Slots) (page : Vec (Option Place)) (i : ℕ) → t.pages.items ≡ s.pages.items ++ page ∷ [] → page.items ≡ [] → slot_at t i ≡ slot_at s i
unfolding slot_at
slots_pushed s t page i e none = ap (λ p. get_or p (i % 256) None) (ap (λ ps. page_at ps (i / 256)) e ∙ page_pushed s.pages.items page (i / 256) none)

-- a page filled up
page_filled : (s t : Slots) (page : Vec (Option Place)) (at n k : ℕ) (i : ℕ) → t.pages.items ≡ set s.pages.items at page → at < length s.pages.items → page.items ≡ page_at s.pages.items at ++ replicate n None
    → get_or (page_at t.pages.items k) i None ≡ get_or (page_at s.pages.items k) i None
page_filled s t page at n k i e lt is = elim (cases_lt k at) [
  | inl less ↦
      let ne : k ≢ at = omega arith in
      ap (λ p. get_or p i None) (ap (λ ps. page_at ps k) e ∙ page_set_other s.pages.items page at k ne)
  | inr from ↦ elim (cases_lt at k) [
    | inl less ↦
        let ne : k ≢ at = omega arith in
        ap (λ p. get_or p i None) (ap (λ ps. page_at ps k) e ∙ page_set_other s.pages.items page at k ne)
    | inr same ↦
        let is_at : at ≡ k = omega arith in
        let set_at : page_at t.pages.items at ≡ page_at s.pages.items at ++ replicate n None = ap (λ ps. page_at ps at) e ∙ (page_set s.pages.items page at lt ∙ is) in
        subst (λ (x : ℕ). get_or (page_at t.pages.items x) i None ≡ get_or (page_at s.pages.items x) i None) is_at (ap (λ p. get_or p i None) set_at ∙ past_page (page_at s.pages.items at) n i)
  ]
]

pub slots_filled : (s t : Slots) (page : Vec (Option Place)) (at n i : ℕ) → t.pages.items ≡ set s.pages.items at page → at < length s.pages.items → page.items ≡ page_at s.pages.items at ++ replicate n None → slot_at t i ≡ slot_at s i
unfolding slot_at
slots_filled s t page at n i e lt is = page_filled s t page at n (i / 256) (i % 256) e lt is

-- a slot filled
pub slot_put : (s t : Slots) (page : Vec (Option Place)) (index : ℕ) (place : Place) → HasSlot s index → t.pages.items ≡ set s.pages.items (index / 256) page
    → page.items ≡ set (page_at s.pages.items (index / 256)) (index % 256) (Some place) → slot_at t index ≡ Some place
unfolding slot_at
slot_put s t page index place h e is =
    let at : page_at t.pages.items (index / 256) ≡ set (page_at s.pages.items (index / 256)) (index % 256) (Some place) = ap (λ ps. page_at ps (index / 256)) e ∙ (page_set s.pages.items page (index / 256) h.page ∙ is) in
    rw at (get_or-set_same (page_at s.pages.items (index / 256)) (index % 256) (Some place) None h.slot)

pub slot_kept : (s t : Slots) (page : Vec (Option Place)) (index : ℕ) (place : Place) (i : ℕ) → HasSlot s index → t.pages.items ≡ set s.pages.items (index / 256) page
    → page.items ≡ set (page_at s.pages.items (index / 256)) (index % 256) (Some place) → i ≢ index → slot_at t i ≡ slot_at s i
unfolding slot_at
slot_kept s t page index place i h e is ne = elim (cases_same (i / 256) (index / 256)) [
  | inl same ↦
      let other : i % 256 ≢ index % 256 = omega arith in
      let at : page_at t.pages.items (index / 256) ≡ set (page_at s.pages.items (index / 256)) (index % 256) (Some place) = ap (λ ps. page_at ps (index / 256)) e ∙ (page_set s.pages.items page (index / 256) h.page ∙ is) in
      rw (same, at) (get_or-set_other (page_at s.pages.items (index / 256)) (index % 256) (i % 256) (Some place) None other)
  | inr apart ↦ ap (λ p. get_or p (i % 256) None) (ap (λ ps. page_at ps (i / 256)) e ∙ page_set_other s.pages.items page (index / 256) (i / 256) apart)
]
  where
    cases_same : (m n : ℕ) → (m ≡ n) ⊎ (m ≢ n)
    cases_same m n = elim (cases_lt m n) [
      | inl less ↦ inr (omega arith)
      | inr from ↦ elim (cases_lt n m) [
        | inl more ↦ inr (omega arith)
        | inr same ↦ inl (omega arith)
      ]
    ]

-- ---- as the calls say it

pub page_here : (pages : Pages) (at : ℕ) (page : Vec (Option Place)) → at < length pages → page ≡ get_or pages at page → page_at pages at ≡ page.items
page_here pages at page lt e = page_is pages at page lt ∙ sym (ap (λ p. p.items) e)

pub slots_same : (s t : Slots) (i : ℕ) → t.pages.items ≡ s.pages.items → slot_at t i ≡ slot_at s i
unfolding slot_at
slots_same s t i e = ap (λ ps. get_or (page_at ps (i / 256)) (i % 256) None) e

pub slots_resized : (s t : Slots) (old new : Vec (Option Place)) (at size more i : ℕ) → t.pages.items ≡ set s.pages.items at new → at < length s.pages.items → old ≡ get_or s.pages.items at old
    → length old.items < size → new.items ≡ take size old.items ++ replicate more None → slot_at t i ≡ slot_at s i
slots_resized s t old new at size more i e lt is short filled =
    let all : take size old.items ≡ page_at s.pages.items at = take_all size old.items (omega arith) ∙ sym (page_here s.pages.items at old lt is) in
    slots_filled s t new at more i e lt (filled ∙ ap (λ xs. xs ++ replicate more None) all)

pub slots_put_back : (s t : Slots) (old new : Vec (Option Place)) (at i : ℕ) → t.pages.items ≡ set s.pages.items at new → at < length s.pages.items → old ≡ get_or s.pages.items at old
    → new.items ≡ old.items → slot_at t i ≡ slot_at s i
slots_put_back s t old new at i e lt is same =
    slots_filled s t new at 0 i e lt (same ∙ (sym (page_here s.pages.items at old lt is) ∙ sym (append-nil (page_at s.pages.items at))))

pub has_slot : (s t : Slots) (page : Vec (Option Place)) (index : ℕ) → t.pages.items ≡ set s.pages.items (index / 256) page → index / 256 < length s.pages.items → index % 256 < length page.items → HasSlot t index
has_slot s t page index e lt within =
    let at : page_at t.pages.items (index / 256) ≡ page.items = ap (λ ps. page_at ps (index / 256)) e ∙ page_set s.pages.items page (index / 256) lt in
    let len : length t.pages.items ≡ length s.pages.items = ap length e ∙ length-set s.pages.items (index / 256) page in
    let size : length (page_at t.pages.items (index / 256)) ≡ length page.items = ap length at in
    record { page = omega arith; slot = omega arith }

pub slot_in_page : (s : Slots) (page : Vec (Option Place)) (index : ℕ) → HasSlot s index → page ≡ get_or s.pages.items (index / 256) page → index % 256 < length page.items
slot_in_page s page index h e =
    let size : length (page_at s.pages.items (index / 256)) ≡ length page.items = ap length (page_here s.pages.items (index / 256) page h.page e) in
    let lt : index % 256 < length (page_at s.pages.items (index / 256)) = h.slot in
    omega arith

pub page_put : (s : Slots) (page : Vec (Option Place)) (index : ℕ) (place : Place) → HasSlot s index → page ≡ get_or s.pages.items (index / 256) page
    → set page.items (index % 256) (Some place) ≡ set (page_at s.pages.items (index / 256)) (index % 256) (Some place)
page_put s page index place h e = ap (λ slots. set slots (index % 256) (Some place)) (sym (page_here s.pages.items (index / 256) page h.page e))

-- ---- a slot read

get_or_any : (xs : Page) (i : ℕ) (a b : Option Place) → i < length xs → get_or xs i a ≡ get_or xs i b
get_or_any [] i a b lt = absurd (omega arith)
get_or_any (x ∷ xs) zero a b lt = refl
get_or_any (x ∷ xs) (suc i) a b lt = get_or_any xs i a b (omega arith)

get_or_past : (xs : Page) (i : ℕ) (a : Option Place) → length xs ≤ i → get_or xs i a ≡ a
get_or_past [] i a le = refl
get_or_past (x ∷ xs) zero a le = absurd (omega arith)
get_or_past (x ∷ xs) (suc i) a le = get_or_past xs i a (omega arith)

pub no_page : (s : Slots) (index : ℕ) → length s.pages.items ≤ index / 256 → slot_at s index ≡ None
unfolding slot_at
no_page s index le = ap (λ p. get_or p (index % 256) None) (page_none s.pages.items (index / 256) le)

pub no_slot : (s : Slots) (page : Vec (Option Place)) (index : ℕ) → index / 256 < length s.pages.items → page ≡ get_or s.pages.items (index / 256) page → length page.items ≤ index % 256 → slot_at s index ≡ None
unfolding slot_at
no_slot s page index lt e le = ap (λ p. get_or p (index % 256) None) (page_here s.pages.items (index / 256) page lt e) ∙ get_or_past page.items (index % 256) None le

pub slot_is : (s : Slots) (page : Vec (Option Place)) (index : ℕ) (slot : Option Place) → index / 256 < length s.pages.items → page ≡ get_or s.pages.items (index / 256) page → index % 256 < length page.items
    → slot ≡ get_or page.items (index % 256) slot → slot ≡ slot_at s index
unfolding slot_at
slot_is s page index slot lt e within is =
    is ∙ (get_or_any page.items (index % 256) slot None within ∙ sym (ap (λ p. get_or p (index % 256) None) (page_here s.pages.items (index / 256) page lt e)))
