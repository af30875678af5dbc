-- How attributes are spelled.
use Rattle.std.specs.Prelude.{ℕ, ◌==◌, List, [], ◌++◌, length, Option, Some, None, if◌then◌else◌}
use Rattle.std.specs.Int.{w8, w16}
use Rattle.rsct_packet.specs.Reading.{number_at, part_at, both_at, made_at, decoded_at, guarded_at, keyed_at}
use Rattle.rsct_packet.specs.Format.{OptionFits}
use Rattle.rsct_packet.specs.Text.{IsName, is_name_of}
use Rattle.rsct_packet.specs.Fields.{u8_text, u16_text, IsU16}
use Rattle.group_attr.specs.declared.attrs.Attrs.{Attrs}
use Rattle.group_attr.specs.declared.attrs.Phases.{Phases}
use Rattle.group_attr.specs.declared.attrs.Phases.TheVariants.{One, Many}
use Rattle.group_attr.specs.declared.attrs.Batch.{Batch}
use Rattle.group_attr.specs.declared.attrs.Batch.TheVariants.{Neither, Joins, Failures, Both}
use Rattle.group_attr.specs.declared.attrs.DefaultVote.{DefaultVote}
use Rattle.group_attr.specs.declared.attrs.DefaultVote.TheVariants.{Approve, Reject}
use Rattle.group_attr.specs.Agree.{batch_number}

abbrev pub phases_number : Phases → ℕ
phases_number One = 1
phases_number Many = 2

abbrev pub phases_of : ℕ → Option Phases
phases_of n = if n == 1 then Some One else if n == 2 then Some Many else None

unfoldable pub phases_at : List ℕ → Option (Phases × List ℕ)
phases_at bytes = decoded_at phases_of (number_at w8) bytes

abbrev pub batch_of : ℕ → Option Batch
batch_of n = if n == 0 then Some Neither else if n == 1 then Some Joins else if n == 2 then Some Failures else if n == 3 then Some Both else None

unfoldable pub batch_at : List ℕ → Option (Batch × List ℕ)
batch_at bytes = decoded_at batch_of (number_at w8) bytes

abbrev pub default_number : DefaultVote → ℕ
default_number Approve = 1
default_number Reject = 3

abbrev pub default_of : ℕ → Option DefaultVote
default_of n = if n == 1 then Some Approve else if n == 3 then Some Reject else None

unfoldable pub default_at : List ℕ → Option (DefaultVote × List ℕ)
default_at bytes = decoded_at default_of (number_at w8) bytes

-- how groups merge: the byte 0 says that the lesser part dissolves
abbrev pub dissolve_of : ℕ → Option (Unit {0})
dissolve_of n = if n == 0 then Some tt else None

unfoldable pub dissolve_at : List ℕ → Option (Unit {0} × List ℕ)
dissolve_at bytes = decoded_at dissolve_of (number_at w8) bytes

-- the byte 0 for no source, or a name, which begins with its length

abbrev pub source_key : Option (List ℕ) → ℕ
source_key None = 0
source_key (Some name) = length name

abbrev pub source_body : Option (List ℕ) → List ℕ
source_body None = []
source_body (Some name) = name

abbrev pub source_part_at : ℕ → List ℕ → Option (Option (List ℕ) × List ℕ)
source_part_at k bytes = if k == 0 then Some (None, bytes) else made_at Some (guarded_at is_name_of (part_at k)) bytes

unfoldable pub source_at : List ℕ → Option (Option (List ℕ) × List ℕ)
source_at bytes = keyed_at (number_at w8) source_part_at bytes

unfoldable pub source_text : Option (List ℕ) → List ℕ
source_text source = u8_text (source_key source) ++ source_body source

-- attributes

abbrev pub attrs_of_parts : Phases × (Batch × (DefaultVote × (ℕ × (Phases × (ℕ × (Unit {0} × Option (List ℕ))))))) → Attrs
attrs_of_parts p =
    record { phases = p.0; batch = p.1.0; default_vote = p.1.1.0; limit = p.1.1.1.0; source_phases = p.1.1.1.1.0; source_limit = p.1.1.1.1.1.0; source = p.1.1.1.1.1.1.1 }

unfoldable pub attrs_at : List ℕ → Option (Attrs × List ℕ)
attrs_at bytes =
    made_at attrs_of_parts (both_at phases_at (both_at batch_at (both_at default_at (both_at (number_at w16) (both_at phases_at (both_at (number_at w16) (both_at dissolve_at source_at))))))) bytes

unfoldable pub attrs_text : Attrs → List ℕ
attrs_text a =
    u8_text (phases_number a.phases)
    ++ (u8_text (batch_number a.batch)
    ++ (u8_text (default_number a.default_vote)
    ++ (u16_text a.limit
    ++ (u8_text (phases_number a.source_phases)
    ++ (u16_text a.source_limit
    ++ (u8_text 0
    ++ source_text a.source))))))

-- attributes that have a spelling
pub record IsAttrs (a : Attrs) : Type 0 where
  pub limit : IsU16 a.limit
  pub source_limit : IsU16 a.source_limit
  pub source : OptionFits IsName a.source
