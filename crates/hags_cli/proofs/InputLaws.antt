-- What the bytes taken so far say of the whole input.
use Rattle.std.proofs.Common.{◌≡◌, ℕ, ◌<◌, List, ◌++◌, length, Option, Some, None, ◌∙◌, ap, IfSome, append-nil}
use Rattle.std.specs.Io.KnownBytes.{Consumes, IsAtEnd}
use Rattle.world_model.specs.Reading.{input_limit}
use Rattle.script_reader.specs.ClientScript.{lines_for}
use Rattle.hags_cli.specs.Run.{ReadsAs}
use Rattle.hags_cli.proofs.LongInputs.{long_reads_for}

-- all was taken
pub all_taken : (a b : Option (List ℕ)) (front : List ℕ) → Consumes a b front → IsAtEnd b → IfSome a (ReadsAs front)
all_taken None b front c e = tt
all_taken (Some xs) None front c e = absurd c
all_taken (Some xs) (Some ys) front c e = λ calls aim. ap (lines_for calls aim) (c ∙ (ap (λ zs. front ++ zs) e ∙ append-nil front))

pub whole_taken : (a b : Option (List ℕ)) (front : List ℕ) → Consumes a b front → IsAtEnd b → IfSome a (λ bytes. bytes ≡ front)
whole_taken None b front c e = tt
whole_taken (Some xs) None front c e = absurd c
whole_taken (Some xs) (Some ys) front c e = c ∙ (ap (λ zs. front ++ zs) e ∙ append-nil front)

-- more than the limit was taken
pub more_taken : (a b : Option (List ℕ)) (front : List ℕ) → Consumes a b front → input_limit < length front → IfSome a (ReadsAs front)
more_taken None b front c h = tt
more_taken (Some xs) None front c h = absurd c
more_taken (Some xs) (Some ys) front c h = λ calls aim. ap (lines_for calls aim) c ∙ long_reads_for calls aim front ys h
