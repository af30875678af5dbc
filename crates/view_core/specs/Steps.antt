-- What one event does to a node's views.
use Rattle.std.specs.Prelude.{ℕ, List}
use Rattle.view_state.specs.declared.install.Part.{Part}
use Rattle.view_exchange.specs.InPlace.{answer_in}
use Rattle.view_core.specs.declared.step.ViewEvent.{ViewEvent}
use Rattle.view_core.specs.declared.step.ViewEvent.TheVariants as event
use Rattle.view_state.specs.declared.views.Views.{Views}
use Rattle.view_state.specs.declared.views.ViewWork.{ViewWork}
use Rattle.view_state.specs.Views.{ask_rule, prepare_rule, answer_rule, refuse_rule, install_rule, taken_rule, gathering_ticks, install_again, views_at_work}

unfoldable pub view_rule : ViewWork → ViewEvent → List Part → ViewWork
view_rule w (event.Ask mask) parts = ask_rule w mask parts
view_rule w (event.Tick ring_ask) parts = gathering_ticks w ring_ask parts
view_rule w event.Remind parts = install_again w
view_rule w (event.Prepare from inc view mask) parts = prepare_rule w from inc view mask parts
view_rule w (event.Answer from inc view answer) parts = answer_rule w view (answer_in from inc answer)
view_rule w (event.Refuse view number) parts = refuse_rule w view number
view_rule w (event.Install install) parts = install_rule w install
view_rule w (event.Taken from view) parts = taken_rule w from view

-- the views after an event, with what is sent, and the install that is to be applied
unfoldable pub view_stepped : Views → ViewEvent → List Part → ViewWork
view_stepped s e parts = view_rule (views_at_work s) e parts
