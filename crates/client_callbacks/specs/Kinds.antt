-- What a daemon's client is, by its kind.
use Rattle.client_callbacks.specs.declared.kinds.ScriptClient.{ScriptClient}
use Rattle.client_callbacks.specs.declared.kinds.BoxedClient.{BoxedClient}
use Rattle.client_callbacks.specs.declared.kinds.DaemonClient.{DaemonClient}
use Rattle.client_callbacks.specs.declared.kinds.DaemonClient.TheVariants.{Script, Boxed}

abbrev pub ForDaemon : {X : Type 0} {g : X → Type 0} → (ScriptClient → Type 0) → (BoxedClient X g → Type 0) → DaemonClient X g → Type 0
ForDaemon P Q (Script c) = P c
ForDaemon P Q (Boxed b) = Q b

abbrev pub script_in : {A : Type 0} {X : Type 0} {g : X → Type 0} → (ScriptClient → A) → (BoxedClient X g → A) → DaemonClient X g → A
script_in f h (Script c) = f c
script_in f h (Boxed b) = h b
