-- The addresses of a script that is read differ on each network: a second one of a node, or of another node, is out of place.
use Rattle.std.proofs.Common.{◌≡◌, ◌≤◌, ◌<◌, ◌⊎◌, ℕ, zero, suc, ◌+◌, ◌-◌, List, [], ◌∷◌, length, get_or, set, map, replicate, Bool, true, false, Option, Some, None, refl, sym, ap, subst, inl, inr, ⊎_elim, arith, length-set}
use Rattle.std.specs.Prelude.{◌==◌, ◌&&◌, nat_lt, nat_le, slice_get, if◌then◌else◌}
use Rattle.std.specs.List.{list_all, list_any}
use Rattle.std.specs.Option.{unwrap_or}
use Rattle.std.proofs.lemmas.List.{length-replicate}
use Rattle.std.proofs.lemmas.Bool.{and_parts, or_parts, ltb-true, leb-true, eq-eqb}
use Rattle.rsct_packet.specs.Mask.{has_node, node_numbers, is_node}
use Rattle.rsct_packet.specs.Search.{Has}
use Rattle.rsct_packet.proofs.HasLaws.{all_has, has_map, get_has}
use Rattle.adapter_ring.specs.Addresses.{addr_of}
use Rattle.node_state.specs.declared.config.Config.{Config}
use Rattle.node_state.specs.Settings.{addresses_on, address_at}
use Rattle.world_model.specs.declared.script.Aim.{Aim}
use Rattle.world_model.specs.declared.script.Aim.TheVariants.{Plays}
use Rattle.world_model.specs.declared.script.Script.{Script}
use Rattle.world_model.specs.Lines.{Said, SaysAdapter}
use Rattle.world_model.specs.Reading.{Reading, nothing_read, plain_address, settled_if, settled, is_second_adapter, misplaced, with_line, with_call, with_client, with_config, with_address, taken, with_text, IsScript, script_in, read_for, script_of}
use Rattle.world_model.proofs.ReadingLaws.{reasonless, Keeps, EndsWith, read_keeps}
use Rattle.run_laws.specs.ring_runs.Rings.{AddressesFit, ScriptAddressesFit}
use Rattle.run_laws.proofs.ring_runs.Finding.{Differ}

-- ---- lists of addresses

-- those that are not 0 differ
abbrev Apart : List ℕ → Type 0
Apart [] = Unit {0}
Apart (a ∷ row) = (0 < a → Has a row → ⊥) × Apart row

record RowFits (row : List ℕ) : Type 0 where
  few : length row ≤ 32
  apart : Apart row

set_has : {A : Type 0} (xs : List A) (i : ℕ) (y x : A) → Has x (set xs i y) → (x ≡ y) ⊎ Has x xs
set_has [] i y x h = absurd h
set_has (z ∷ zs) zero y x (inl e) = inl e
set_has (z ∷ zs) zero y x (inr h) = inr (inr h)
set_has (z ∷ zs) (suc i) y x (inl e) = inr (inl e)
set_has (z ∷ zs) (suc i) y x (inr h) = ⊎_elim (λ (a : x ≡ y). inl a) (λ (b : Has x zs). inr (inr b)) (set_has zs i y x h)

-- one that is not there yet may be set
apart_set : (row : List ℕ) (i a : ℕ) → (Has a row → ⊥) → Apart row → Apart (set row i a)
apart_set [] i a new k = tt
apart_set (b ∷ bs) zero a new k = ((λ up h. new (inr h)), k.1)
apart_set (b ∷ bs) (suc i) a new k =
    ((λ up h. ⊎_elim (λ (e : b ≡ a). new (inl (sym e))) (λ (g : Has b bs). k.0 up g) (set_has bs i a b h)), apart_set bs i a (λ h. new (inr h)) k.1)

zeros_apart : (n : ℕ) → Apart (replicate n 0)
zeros_apart zero = tt
zeros_apart (suc n) = ((λ up h. absurd (omega arith)), zeros_apart n)

zeros_fit : RowFits (replicate 32 0)
zeros_fit = record { few = omega (arith, length-replicate {A = ℕ} 32 0); apart = zeros_apart 32 }

copies : {A : Type 0} (n : ℕ) (y x : A) → Has x (replicate n y) → x ≡ y
copies zero y x h = absurd h
copies (suc n) y x (inl e) = e
copies (suc n) y x (inr h) = copies n y x h

at_has : (row : List ℕ) (i : ℕ) → 0 < get_or row i 0 → Has (get_or row i 0) row
at_has [] i up = absurd (omega arith)
at_has (a ∷ row) zero up = inl refl
at_has (a ∷ row) (suc i) up = inr (at_has row i up)

-- so an address stands at one place
one_place : (row : List ℕ) → Apart row → (i k : ℕ) → 0 < get_or row i 0 → get_or row i 0 ≡ get_or row k 0 → i ≡ k
one_place [] d i k up e = absurd (omega arith)
one_place (a ∷ row) d zero zero up e = refl
one_place (a ∷ row) d zero (suc k) up e = absurd (d.0 up (subst (λ z. Has z row) (sym e) (at_has row k (subst (λ z. 0 < z) e up))))
one_place (a ∷ row) d (suc i) zero up e = absurd (d.0 (subst (λ z. 0 < z) e up) (subst (λ z. Has z row) e (at_has row i up)))
one_place (a ∷ row) d (suc i) (suc k) up e = ap suc (one_place row d.1 i k up e)

-- ---- numbers that rise

rises : List ℕ → Bool
rises [] = true
rises (n ∷ ns) = list_all (λ m. nat_lt n m) ns && rises ns

rising_differ : (ns : List ℕ) → rises ns ≡ true → Differ ns
unfolding rises
rising_differ [] e = tt
rising_differ (n ∷ ns) e =
    let p = and_parts (list_all (λ m. nat_lt n m) ns) (rises ns) e in
    ((λ h. (let lt : n < n = ltb-true n n (all_has (λ m. nat_lt n m) ns n p.0 h) in omega arith)), rising_differ ns p.1)

-- the plain addresses of nodes
plain_apart : (c : Config) (ns : List ℕ) → Differ ns → Apart (map (plain_address c) ns)
unfolding plain_address
plain_apart c [] d = tt
plain_apart c (n ∷ ns) d = ((λ up h. (let m = has_map (plain_address c) (plain_address c n) ns h in d.0 (subst (λ z. Has z ns) (sym (same m.0 (has_node c.nodes n) (has_node c.nodes m.0) up m.2)) m.1))), plain_apart c ns d.1)
  where
    same : (m : ℕ) (a b : Bool) → 0 < (if a then 167837696 + n else 0) → (if a then 167837696 + n else 0) ≡ (if b then 167837696 + m else 0) → n ≡ m
    same m true true up e = omega arith
    same m true false up e = absurd (omega arith)
    same m false b up e = absurd (omega arith)

-- ---- what has been read

record Fine (r : Reading) : Type 0 where
  rows : (row : List ℕ) → Has row r.config.addr → RowFits row

row_fits : (c : Config) → ((row : List ℕ) → Has row c.addr → RowFits row) → (net : ℕ) → RowFits (addresses_on c net)
unfolding addresses_on
row_fits c rows net = by (slice_get c.addr (net - 1)) refl
  where
    by : (o : Option (List ℕ)) → slice_get c.addr (net - 1) ≡ o → RowFits (unwrap_or o [])
    by None e = record { few = omega arith; apart = tt }
    by (Some row) e = rows row (get_has c.addr (net - 1) row e)

none_of : (row : List ℕ) (address : ℕ) → list_any (λ a. a == address) row ≡ false → Has address row → ⊥
none_of [] address e h = h
none_of (a ∷ row) address e (inl q) = let p = or_parts (a == address) (list_any (λ a. a == address) row) e in let f = eq-eqb a address (sym q) in absurd (cc)
none_of (a ∷ row) address e (inr h) = none_of row address (or_parts (a == address) (list_any (λ a. a == address) row) e).1 h

-- ---- one line

adapter_fine : (r : Reading) (n network address : ℕ) → Fine r → is_second_adapter r.config n network address ≡ false → (row : List ℕ) → Has row (with_address r.config n network address).addr → RowFits row
unfolding is_second_adapter with_address
adapter_fine r n network address f place row h =
    let old : List ℕ = addresses_on r.config network in
    let fits : RowFits old = row_fits r.config f.rows network in
    let new : Has address old → ⊥ = none_of old address (or_parts (nat_lt 0 (address_at r.config n network)) (list_any (λ a. a == address) old) place).1 in
    let now : RowFits (set old (n - 1) address) = record { few = subst (λ z. z ≤ 32) (sym (length-set old (n - 1) address)) fits.few; apart = apart_set old (n - 1) address new fits.apart } in
    ⊎_elim (λ (e : row ≡ set old (n - 1) address). subst RowFits (sym e) now) (λ (g : Has row r.config.addr). f.rows row g) (set_has r.config.addr (network - 1) (set old (n - 1) address) row h)

taken_fine : (r : Reading) (x : Said) → Fine r → misplaced r x ≡ false → Fine (taken r x)
unfolding taken misplaced with_config with_line with_call with_client with_address
taken_fine r (SaysAdapter n network address) f place =
    record { rows = adapter_fine r n network address f (or_parts r.begun (is_second_adapter r.config n network address) place).1 }
taken_fine r _ f place = record { rows = f.rows }

text_fine : (r : Reading) (bytes : List ℕ) → Fine r → Fine (with_text r bytes r.has_call)
unfolding with_text
text_fine r bytes f = by r.has_call
  where
    by : (b : Bool) → Fine (with_text r bytes b)
    by true = record { rows = f.rows }
    by false = f

keeps_fine : Keeps Fine Fine
keeps_fine = record {
  says = λ r h ws x e none f. taken_fine r x f (reasonless r x none).placed;
  rests = λ r f. f;
  texts = text_fine;
}

-- ---- a whole script

plain_fits : (c : Config) → RowFits (map (plain_address c) node_numbers)
unfolding rises
plain_fits c = record { few = omega arith; apart = plain_apart c node_numbers (rising_differ node_numbers all_rise) }
  where
    all_rise : rises node_numbers ≡ true
    all_rise = refl

settled_fine : (r : Reading) → Fine r → (b : Bool) → (row : List ℕ) → Has row (settled_if r.config b).addr → RowFits row
unfolding settled_if
settled_fine r f true row h = f.rows row h
settled_fine r f false row h =
    ⊎_elim (λ (q : row ≡ map (plain_address r.config) node_numbers). subst RowFits (sym q) (plain_fits r.config)) (λ (g : Has row r.config.addr). f.rows row g) (set_has r.config.addr 0 (map (plain_address r.config) node_numbers) row h)

none_fine : (aim : Aim) → Fine (nothing_read aim)
unfolding nothing_read
none_fine aim = record { rows = λ row h. subst RowFits (sym (copies 4 (replicate 32 0) row h)) zeros_fit }

script_rows : (r : Reading) → Fine r → (row : List ℕ) → Has row (script_in r).config.addr → RowFits row
unfolding script_in settled
script_rows r f = settled_fine r f r.has_adapter

-- ---- what is asked of settings

fit_of : (c : Config) (net : ℕ) → RowFits (addresses_on c net) → AddressesFit c net
unfolding addr_of
fit_of c net fits = record { nodes = fits.few; differ = λ a b up e. by a b (is_node a) (is_node b) refl refl up e }
  where
    row : List ℕ
    row = addresses_on c net

    real : (n : ℕ) → is_node n ≡ true → 1 ≤ n
    real n e = leb-true 1 n (and_parts (nat_le 1 n) (nat_le n 32) e).0

    by : (a b : ℕ) (p q : Bool) → is_node a ≡ p → is_node b ≡ q → 0 < elim p as (λ _. ℕ) [ true ↦ get_or row (a - 1) 0 | false ↦ 0 ] → elim p as (λ _. ℕ) [ true ↦ get_or row (a - 1) 0 | false ↦ 0 ] ≡ elim q as (λ _. ℕ) [ true ↦ get_or row (b - 1) 0 | false ↦ 0 ] → a ≡ b
    by a b true true e f up same =
        let place : a - 1 ≡ b - 1 = one_place row fits.apart (a - 1) (b - 1) up same in
        let x : 1 ≤ a = real a e in
        let y : 1 ≤ b = real b f in omega arith
    by a b true false e f up same = absurd (omega arith)
    by a b false q e f up same = absurd (omega arith)

-- for whatever a script is read
pub addresses_fit : (aim : Aim) (bytes : List ℕ) (s : Script) → read_for aim bytes ≡ IsScript s → (net : ℕ) → AddressesFit s.config net
addresses_fit aim bytes s e net =
    let end : EndsWith Fine s = read_keeps Fine Fine keeps_fine aim bytes s (none_fine aim) e in
    subst (λ (x : Script). AddressesFit x.config net) (sym end.is) (fit_of (script_in end.last).config net (row_fits (script_in end.last).config (script_rows end.last end.keeps) net))

-- settings that have no address yet have the plain ones
pub plain_addresses_fit : (c : Config) → c.addr ≡ replicate 4 (replicate 32 0) → (net : ℕ) → AddressesFit (settled_if c false) net
plain_addresses_fit c none net =
    let r : Reading = record (nothing_read Plays) { config = c } in
    let fine : Fine r = record { rows = λ row h. subst RowFits (sym (copies 4 (replicate 32 0) row (subst (Has row) none h))) zeros_fit } in
    fit_of (settled_if c false) net (row_fits (settled_if c false) (settled_fine r fine false) net)

pub script_addresses_fit : ScriptAddressesFit
unfolding script_of
script_addresses_fit bytes s e net = addresses_fit Plays bytes s e net
