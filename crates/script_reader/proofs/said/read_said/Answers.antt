use Rattle.script_words.specs.declared.heads.Head.TheVariants as head
use Rattle.script_reader.proofs.SaidLaws.{gives_form, option_form}
use Rattle.script_reader.proofs.said.read_said.Goals as goal

pub returns-in-Mode : goal.returns-in-Mode
returns-in-Mode c = option_form _ head.Mode _ _ _ c.in-Mode.is c.ok_or.ensures.value c.says_mode.ensures

pub returns-in-Node : goal.returns-in-Node
returns-in-Node c = option_form _ head.Node _ _ _ c.in-Node.is c.ok_or-in-Node.ensures.value c.says_node.ensures

pub returns-in-Adapter : goal.returns-in-Adapter
returns-in-Adapter c = option_form _ head.Adapter _ _ _ c.in-Adapter.is c.ok_or-in-Adapter.ensures.value c.says_adapter.ensures

pub returns-in-Hb : goal.returns-in-Hb
returns-in-Hb c = option_form _ head.Hb _ _ _ c.in-Hb.is c.ok_or-in-Hb.ensures.value c.says_hb.ensures

pub returns-in-Port : goal.returns-in-Port
returns-in-Port c = option_form _ head.Port _ _ _ c.in-Port.is c.ok_or-in-Port.ensures.value c.says_port.ensures

pub returns-in-Level : goal.returns-in-Level
returns-in-Level c = option_form _ head.Level _ _ _ c.in-Level.is c.ok_or-in-Level.ensures.value c.says_level.ensures

pub returns-in-Domain : goal.returns-in-Domain
returns-in-Domain c = option_form _ head.Domain _ _ _ c.in-Domain.is c.ok_or-in-Domain.ensures.value c.says_domain.ensures

pub returns-in-Begin : goal.returns-in-Begin
returns-in-Begin c = option_form _ head.Begin _ _ _ c.in-Begin.is c.ok_or-in-Begin.ensures.value c.says_begin.ensures

pub returns-in-Start : goal.returns-in-Start
returns-in-Start c = option_form _ head.Start _ _ _ c.in-Start.is c.ok_or-in-Start.ensures.value c.says_start.ensures

pub returns-in-Stop : goal.returns-in-Stop
returns-in-Stop c = option_form _ head.Stop _ _ _ c.in-Stop.is c.ok_or-in-Stop.ensures.value c.says_stop.ensures

pub returns-in-Ask : goal.returns-in-Ask
returns-in-Ask c = gives_form _ head.Ask _ _ c.in-Ask.is c.says_ask.ensures

pub returns-in-Tick : goal.returns-in-Tick
returns-in-Tick c = option_form _ head.Tick _ _ _ c.in-Tick.is c.ok_or-in-Tick.ensures.value c.says_tick.ensures

pub returns-in-Run : goal.returns-in-Run
returns-in-Run c = option_form _ head.Run _ _ _ c.in-Run.is c.ok_or-in-Run.ensures.value c.says_run.ensures

pub returns-in-Deliver : goal.returns-in-Deliver
returns-in-Deliver c = option_form _ head.Deliver _ _ _ c.in-Deliver.is c.ok_or-in-Deliver.ensures.value c.says_deliver.ensures

pub returns-in-Drop : goal.returns-in-Drop
returns-in-Drop c = option_form _ head.Drop _ _ _ c.in-Drop.is c.ok_or-in-Drop.ensures.value c.says_drop.ensures

pub returns-in-Flow : goal.returns-in-Flow
returns-in-Flow c = option_form _ head.Flow _ _ _ c.in-Flow.is c.ok_or-in-Flow.ensures.value c.says_flow.ensures

pub returns-in-Cut : goal.returns-in-Cut
returns-in-Cut c = option_form _ head.Cut _ _ _ c.in-Cut.is c.ok_or-in-Cut.ensures.value c.says_cut.ensures

pub returns-in-Heal : goal.returns-in-Heal
returns-in-Heal c = option_form _ head.Heal _ _ _ c.in-Heal.is c.ok_or-in-Heal.ensures.value c.says_heal.ensures

pub returns-in-Garbage : goal.returns-in-Garbage
returns-in-Garbage c = gives_form _ head.Garbage _ _ c.in-Garbage.is c.says_garbage.ensures

pub returns-in-Show : goal.returns-in-Show
returns-in-Show c = option_form _ head.Show _ _ _ c.in-Show.is c.ok_or-in-Show.ensures.value c.says_show.ensures

pub returns-in-Client : goal.returns-in-Client
returns-in-Client c = gives_form _ head.Client _ _ c.in-Client.is c.says_client.ensures

pub returns-in-Join : goal.returns-in-Join
returns-in-Join c = gives_form _ head.Join _ _ c.in-Join.is c.says_join.ensures

pub returns-in-Leave : goal.returns-in-Leave
returns-in-Leave c = gives_form _ head.Leave _ _ c.in-Leave.is c.says_leave.ensures

pub returns-in-Expel : goal.returns-in-Expel
returns-in-Expel c = gives_form _ head.Expel _ _ c.in-Expel.is c.says_expel.ensures

pub returns-in-State : goal.returns-in-State
returns-in-State c = gives_form _ head.State _ _ c.in-State.is c.says_state.ensures

pub returns-in-Message : goal.returns-in-Message
returns-in-Message c = gives_form _ head.Message _ _ c.in-Message.is c.says_message.ensures

pub returns-in-Attrs : goal.returns-in-Attrs
returns-in-Attrs c = gives_form _ head.Attrs _ _ c.in-Attrs.is c.says_attrs.ensures

pub returns-in-Vote : goal.returns-in-Vote
returns-in-Vote c = gives_form _ head.Vote _ _ c.in-Vote.is c.says_vote.ensures

pub returns-in-Subscribe : goal.returns-in-Subscribe
returns-in-Subscribe c = gives_form _ head.Subscribe _ _ c.in-Subscribe.is c.says_subscribe.ensures

pub returns-in-Unsubscribe : goal.returns-in-Unsubscribe
returns-in-Unsubscribe c = gives_form _ head.Unsubscribe _ _ c.in-Unsubscribe.is c.says_unsubscribe.ensures

pub returns-in-Goodbye : goal.returns-in-Goodbye
returns-in-Goodbye c = gives_form _ head.Goodbye _ _ c.in-Goodbye.is c.says_goodbye.ensures
