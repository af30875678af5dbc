-- What is read as attributes is spelled so, and what is spelled so is read.
use Rattle.std.proofs.Common.{◌≡◌, ℕ, ◌<◌, ◌≤◌, false, List, ◌++◌, length, Option, Some, None, refl, subst, arith, eqb-true}
use Rattle.std.specs.Prelude.{◌==◌, if◌then◌else◌, ◌&&◌, nat_le}
use Rattle.std.specs.List.{list_all}
use Rattle.std.specs.Option.{option_map}
use Rattle.std.specs.Borrow.{Bor}
use Rattle.std.proofs.lemmas.Bool.{leb-true}
use Rattle.rsct_packet.specs.Reading.{Gives, part_at, made_at, guarded_at}
use Rattle.rsct_packet.specs.Format.{IsFormat, IsVariant, Takes, OptionFits}
use Rattle.rsct_packet.specs.Text.{IsName, is_name_of, name_byte}
use Rattle.rsct_packet.specs.Fields.{u8_text}
use Rattle.rsct_packet.proofs.FormatLaws.{both_format, made_format, decoded_format, fits_format, keyed_format, keyed_of, or_variant, plain_variant, part_keyed, bind_some, then_some, u8_format, u16_format}
use Rattle.rsct_packet.proofs.FieldLaws.{and_true}
use Rattle.group_attr.proofs.Chosen.{chosen, not_chosen}
use Rattle.group_attr.specs.declared.attrs.Phases.{Phases}
use Rattle.group_attr.specs.declared.attrs.Phases.TheVariants.{One, Many}
use Rattle.group_attr.specs.declared.attrs.Batch.{Batch}
use Rattle.group_attr.specs.declared.attrs.Batch.TheVariants.{Neither, Joins, Failures, Both}
use Rattle.group_attr.specs.declared.attrs.DefaultVote.{DefaultVote}
use Rattle.group_attr.specs.declared.attrs.DefaultVote.TheVariants.{Approve, Reject}
use Rattle.group_attr.specs.declared.attrs.Attrs.{Attrs}
use Rattle.group_codec.specs.declared.attrs.AttrsRef.{AttrsRef}
use Rattle.group_attr.specs.Agree.{batch_number}
use Rattle.group_attr.specs.Codec.{phases_number, phases_of, phases_at, batch_of, batch_at, default_number, default_of, default_at, dissolve_of, dissolve_at, source_key, source_body, source_part_at, source_at, source_text, attrs_of_parts, attrs_at, attrs_text, IsAttrs}
use Rattle.group_codec.specs.InPlace.{attrs_in, attrs_of}

phases_back : (k : ℕ) (y : Phases) → phases_of k ≡ Some y → phases_number y ≡ k
phases_back k y = chosen phases_number 1 k One y _ _ (eqb-true k 1) refl (chosen phases_number 2 k Many y _ _ (eqb-true k 2) refl (not_chosen y))

phases_forth : (y : Phases) → phases_of (phases_number y) ≡ Some y
phases_forth One = refl
phases_forth Many = refl

phases_small : (y : Phases) → phases_number y < 256
phases_small One = omega arith
phases_small Many = omega arith

pub phases_format : IsFormat phases_at (λ p. u8_text (phases_number p)) (λ p. Unit {0})
unfolding phases_at
phases_format = fits_format (λ p. Unit {0}) (λ p h. tt) (λ p h. phases_small p) (decoded_format phases_of phases_number phases_back (λ y h. phases_forth y) u8_format)

batch_back : (k : ℕ) (y : Batch) → batch_of k ≡ Some y → batch_number y ≡ k
batch_back k y =
    chosen batch_number 0 k Neither y _ _ (eqb-true k 0) refl
    (chosen batch_number 1 k Joins y _ _ (eqb-true k 1) refl
    (chosen batch_number 2 k Failures y _ _ (eqb-true k 2) refl (chosen batch_number 3 k Both y _ _ (eqb-true k 3) refl (not_chosen y))))

batch_forth : (y : Batch) → batch_of (batch_number y) ≡ Some y
batch_forth Neither = refl
batch_forth Joins = refl
batch_forth Failures = refl
batch_forth Both = refl

batch_small : (y : Batch) → batch_number y < 256
batch_small Neither = omega arith
batch_small Joins = omega arith
batch_small Failures = omega arith
batch_small Both = omega arith

pub batch_format : IsFormat batch_at (λ b. u8_text (batch_number b)) (λ b. Unit {0})
unfolding batch_at
batch_format = fits_format (λ b. Unit {0}) (λ b h. tt) (λ b h. batch_small b) (decoded_format batch_of batch_number batch_back (λ y h. batch_forth y) u8_format)

default_back : (k : ℕ) (y : DefaultVote) → default_of k ≡ Some y → default_number y ≡ k
default_back k y = chosen default_number 1 k Approve y _ _ (eqb-true k 1) refl (chosen default_number 3 k Reject y _ _ (eqb-true k 3) refl (not_chosen y))

default_forth : (y : DefaultVote) → default_of (default_number y) ≡ Some y
default_forth Approve = refl
default_forth Reject = refl

default_small : (y : DefaultVote) → default_number y < 256
default_small Approve = omega arith
default_small Reject = omega arith

pub default_format : IsFormat default_at (λ d. u8_text (default_number d)) (λ d. Unit {0})
unfolding default_at
default_format = fits_format (λ d. Unit {0}) (λ d h. tt) (λ d h. default_small d) (decoded_format default_of default_number default_back (λ y h. default_forth y) u8_format)

dissolve_back : (k : ℕ) (y : Unit {0}) → dissolve_of k ≡ Some y → 0 ≡ k
dissolve_back k y = chosen {A = Unit {0}} (λ u. 0) 0 k tt y _ _ (eqb-true k 0) refl (not_chosen y)

dissolve_format : IsFormat dissolve_at (λ u. u8_text 0) (λ u. Unit {0})
unfolding dissolve_at
dissolve_format = fits_format (λ u. Unit {0}) (λ u h. tt) (λ u h. omega arith) (decoded_format dissolve_of (λ u. 0) dissolve_back (λ y h. refl) u8_format)

-- the source: a length that is not 0, and a name of that length

name_len : (b : List ℕ) → IsName b → (1 ≤ length b) × (length b ≤ 32)
name_len b h =
    let both = and_true (nat_le 1 (length b) && nat_le (length b) 32) (list_all name_byte b) h in
    let ends = and_true (nat_le 1 (length b)) (nat_le (length b) 32) both.0 in
    (leb-true 1 (length b) ends.0, leb-true (length b) 32 ends.1)

-- a name of k bytes, as a source
name_variant : (k : ℕ) → IsVariant source_key source_body (OptionFits IsName) k (made_at Some (guarded_at is_name_of (part_at k)))
name_variant k = record {
  found = λ bytes x h e.
      let a = bind_some (guarded_at is_name_of (part_at k) bytes) (λ a. Some (Some a.0, a.1)) x e in
      let p = bind_some (part_at k bytes) (λ a. if is_name_of a.0 then Some a else None) a.0 a.1 in
      let g = then_some (is_name_of p.0.0) p.0 a.0 p.2 in
      let q = part_keyed.found k bytes p.0 h p.1 in
      let first : ◌≡◌ {A = Option (List ℕ) × List ℕ} (Some a.0.0, a.0.1) x = cc in
      subst (λ (y : Option (List ℕ) × List ℕ). Takes bytes (source_body y.0) y.1 × OptionFits IsName y.0 × (source_key y.0 ≡ k)) first
      (subst (λ (y : List ℕ × List ℕ). Takes bytes y.0 y.1 × IsName y.0 × (length y.0 ≡ k)) g.1 (q.0, g.0, q.2));
}

source_again : (x : Option (List ℕ)) (rest : List ℕ) → OptionFits IsName x → source_part_at (source_key x) (source_body x ++ rest) ≡ Some (x, rest)
source_again None rest h = refl
source_again (Some name) rest h =
    let positive = (name_len name h).0 in
    let none : (length name == 0) ≡ false = grind arith in
    rw (none, part_keyed.again name rest tt, h) refl

source_small : (x : Option (List ℕ)) → OptionFits IsName x → source_key x < 256
source_small None h = omega arith
source_small (Some name) h = let le = (name_len name h).1 in omega arith

pub source_format : IsFormat source_at source_text (OptionFits IsName)
unfolding source_at source_text
source_format =
    fits_format (OptionFits IsName) (λ x h. h.1) (λ x h. (source_small x h, h))
    (keyed_format u8_format (keyed_of (λ k. or_variant 0 k (plain_variant None refl tt refl) (name_variant k)) source_again))

-- attributes
pub attrs_format : IsFormat attrs_at attrs_text IsAttrs
unfolding attrs_at attrs_text
attrs_format =
    fits_format IsAttrs (λ a h. record { limit = h.1.1.1.0; source_limit = h.1.1.1.1.1.0; source = h.1.1.1.1.1.1.1 }) (λ a h. (tt, (tt, (tt, (h.limit, (tt, (h.source_limit, (tt, h.source))))))))
    (made_format attrs_of_parts (λ a. (a.phases, (a.batch, (a.default_vote, (a.limit, (a.source_phases, (a.source_limit, (tt, a.source))))))))
    (λ a. refl)
    (λ b. refl)
    (both_format phases_format (both_format batch_format (both_format default_format (both_format u16_format (both_format phases_format (both_format u16_format (both_format dissolve_format source_format))))))))

-- an answer that stands for a value gives that value
pub stands_gives : {A : Type 0} {B : Type 0} (made : A → B) (result : Option (A × Bor (List ℕ))) (read : Option (B × List ℕ)) → option_map (λ x. (made x.0, x.1.now)) result ≡ read → Gives (option_map (λ x. (made x.0, x.1)) result) read
stands_gives made None read e = e
stands_gives made (Some x) read e = e

pub attrs_gives : (result : Option (AttrsRef × Bor (List ℕ))) (read : Option (Attrs × List ℕ)) → option_map (λ x. (attrs_in x.0, x.1.now)) result ≡ read → Gives (attrs_of result) read
attrs_gives result read e = stands_gives attrs_in result read e
