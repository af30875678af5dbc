-- What holds of a node's views after every event.
use Rattle.std.specs.Prelude.{◌≡◌, ℕ, Bool, true, false, List, Option, Some, None}
use Rattle.rsct_packet.specs.declared.ids.ViewId.{ViewId}
use Rattle.rsct_packet.specs.declared.ids.Member.{Member}
use Rattle.rsct_packet.specs.Ids.{view_lt}
use Rattle.view_state.specs.declared.exchange.Exchange.{Exchange}
use Rattle.view_state.specs.declared.install.Part.{Part}
use Rattle.view_state.specs.declared.install.Install.{Install}
use Rattle.view_core.specs.declared.step.ViewEvent.{ViewEvent}
use Rattle.view_state.specs.declared.views.Views.{Views}
use Rattle.view_state.specs.declared.views.ViewWork.{ViewWork}
use Rattle.view_state.specs.Views.{views_new, views_entered}
use Rattle.view_core.specs.Steps.{view_stepped}

-- a is b or later
abbrev pub NotBefore : ViewId → ViewId → Type 0
NotBefore a b = view_lt a b ≡ false

-- a view that is gathered for, or is to be applied, is the promise, and above the view that the node is in
pub record IsNext (s : Views) (v : ViewId) : Type 0 where
  pub promised : v ≡ s.promise
  pub above : view_lt s.view v ≡ true

abbrev pub GathersNext : Views → Option Exchange → Type 0
GathersNext s None = Unit {0}
GathersNext s (Some g) = IsNext s g.view

abbrev pub AppliesNext : Views → Option Install → Type 0
AppliesNext s None = Unit {0}
AppliesNext s (Some i) = IsNext s i.view

-- the promise is never less than the view
pub record AreViews (s : Views) : Type 0 where
  pub covers : NotBefore s.promise s.view
  pub gathers : GathersNext s s.gathering

abbrev pub ViewsBegin : Type 0
ViewsBegin = (me inc : ℕ) (v : ViewId) (ms : List Member) → AreViews (views_new me inc v ms)

-- what one event leaves: the view stays, the promise does not fall, and what is to be applied comes next
pub record Goes (s : Views) (w : ViewWork) : Type 0 where
  pub views : AreViews w.views
  pub view : w.views.view ≡ s.view
  pub promise : NotBefore w.views.promise s.promise
  pub applies : AppliesNext w.views w.install

abbrev pub PromisesStand : Type 0
PromisesStand = (s : Views) (e : ViewEvent) (parts : List Part) → AreViews s → Goes s (view_stepped s e parts)

-- a view that is entered is a later one
pub record Enters (s t : Views) : Type 0 where
  pub views : AreViews t
  pub rises : view_lt s.view t.view ≡ true
  pub promise : NotBefore t.promise s.promise

abbrev pub ViewsRise : Type 0
ViewsRise = (s : Views) (i : Install) → IsNext s i.view → Enters s (views_entered s i)
