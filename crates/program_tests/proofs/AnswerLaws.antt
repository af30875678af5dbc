-- One thing more that a client was handed, and what it filled.
use Rattle.std.proofs.Common.{◌≡◌, ℕ, List, [], ◌∷◌, ◌++◌, Option, refl, ap}
use Rattle.client_callbacks.specs.declared.ballot.Filled.{Filled}
use Rattle.client_callbacks.specs.declared.told.Told.{Told}
use Rattle.client_callbacks.specs.Handed.{Handed, NoticeView, Notified, Informed}
use Rattle.program_tests.specs.Answers.{values_heard, message_in, messages_heard, ballots_filled}

pub values_more : (hs : List Handed) (n : NoticeView) (b : Option Filled) → values_heard (hs ++ Notified n b ∷ []) ≡ values_heard hs ++ n.after.value ∷ []
values_more [] n b = refl
values_more (Notified m c ∷ hs) n b = ap (λ (xs : List (List ℕ)). m.after.value ∷ xs) (values_more hs n b)
values_more (Informed t ∷ hs) n b = values_more hs n b

pub messages_more : (hs : List Handed) (n : NoticeView) (b : Option Filled) → messages_heard (hs ++ Notified n b ∷ []) ≡ messages_heard hs ++ message_in n.entry ∷ []
messages_more [] n b = refl
messages_more (Notified m c ∷ hs) n b = ap (λ (xs : List (Option (List ℕ))). message_in m.entry ∷ xs) (messages_more hs n b)
messages_more (Informed t ∷ hs) n b = messages_more hs n b

pub ballots_more : (hs : List Handed) (n : NoticeView) (b : Option Filled) → ballots_filled (hs ++ Notified n b ∷ []) ≡ ballots_filled hs ++ b ∷ []
ballots_more [] n b = refl
ballots_more (Notified m c ∷ hs) n b = ap (λ (xs : List (Option Filled)). c ∷ xs) (ballots_more hs n b)
ballots_more (Informed t ∷ hs) n b = ballots_more hs n b

pub values_told : (hs : List Handed) (t : Told) → values_heard (hs ++ Informed t ∷ []) ≡ values_heard hs
values_told [] t = refl
values_told (Notified m c ∷ hs) t = ap (λ (xs : List (List ℕ)). m.after.value ∷ xs) (values_told hs t)
values_told (Informed u ∷ hs) t = values_told hs t

pub messages_told : (hs : List Handed) (t : Told) → messages_heard (hs ++ Informed t ∷ []) ≡ messages_heard hs
messages_told [] t = refl
messages_told (Notified m c ∷ hs) t = ap (λ (xs : List (Option (List ℕ))). message_in m.entry ∷ xs) (messages_told hs t)
messages_told (Informed u ∷ hs) t = messages_told hs t

pub ballots_told : (hs : List Handed) (t : Told) → ballots_filled (hs ++ Informed t ∷ []) ≡ ballots_filled hs
ballots_told [] t = refl
ballots_told (Notified m c ∷ hs) t = ap (λ (xs : List (Option Filled)). c ∷ xs) (ballots_told hs t)
ballots_told (Informed u ∷ hs) t = ballots_told hs t
