-- What is said of a client goes on as it is handed something more.
use Rattle.std.proofs.Common.{Bool, true, false, List, [], ◌∷◌, ◌++◌, Result, Ok, Err}
use Rattle.std.specs.Prelude.{OnOk}
use Rattle.client_callbacks.specs.Handed.{Handed}
use Rattle.daemon_run.specs.Hosting.{OnlyIf, is_known, Says}

on_if : (b : Bool) (P Q : Type 0) → (P → Q) → OnlyIf b P → OnlyIf b Q
on_if true P Q f p = f p
on_if false P Q f p = tt

pub says_on : {C X E : Type 0} (R : C → List Handed → Type 0) (c d : C) (r : Result X E) (new : Handed) → ((h : List Handed) → R c h → OnOk r (R d (h ++ new ∷ []))) → (h : List Handed) → Says R c h → OnOk r (Says R d (h ++ new ∷ []))
says_on R c d (Ok x) new on [] s = absurd s
says_on R c d (Ok x) new on (m ∷ h) s = on_if (is_known m) (R c h) (R d (h ++ new ∷ [])) (on h) s
says_on R c d (Err e) new on h s = tt

-- the same where something is promised of it under a premise
pub says_noticed : {C X E P : Type 0} (R : C → List Handed → Type 0) (c d : C) (r : Result X E) (new : Handed) → ((h : List Handed) → R c h → P → OnOk r (R d (h ++ new ∷ []))) → (h : List Handed) → Says R c h → P → OnOk r (Says R d (h ++ new ∷ []))
says_noticed R c d r new on h s premise = says_on R c d r new (λ h stood. on h stood premise) h s
