-- What is kept by each change keeps the rules of packets of groups, what is owed, and the tick of what is led.
use Rattle.std.proofs.Common.{◌≡◌, ℕ, List, [], refl, inr}
use Rattle.node_state.specs.declared.group.Led.{Led}
use Rattle.node_state.specs.declared.packet.Packet.{Packet}
use Rattle.node_state.specs.declared.state.Core.{Core}
use Rattle.node_state.specs.State.{with_led}
use Rattle.node_state.specs.HandOn.{Answering}
use Rattle.node_state.specs.Leading.{with_tally, tally_set, tally_opened}
use Rattle.node_state.specs.Following.{vote_cast}
use Rattle.node_state.specs.Ticks.{tick_owed, tick_led}
use Rattle.step_walk.proofs.Waiting.{Few, cast_few}
use Rattle.step_walk.proofs.Changes.{Any, KeepsRules}
use Rattle.step_walk.proofs.Evidence.{KeepsPackets}
use Rattle.step_walk.proofs.Leading.{Anything, Nothing, beside_of, keeping_of}
use Rattle.step_walk.proofs.Packets.{cast_decided, at_owed_part, at_led_part}

module _ (P : Core → Type 0) (Given : Packet → Type 0) (rules : KeepsRules P Given) where
  counted : (s : Core) (g : List ℕ) (f : Led → Led) → ((l : Led) → (f l).decided ≡ l.decided) → ((l : Led) → Few l.waiting → Few (f l).waiting) → P s → P (with_led s g f)
  unfolding with_led
  counted s g f decided few p =
      rules.keeps.row s g (λ row. record row { led = f row.led }) tt (record { name = λ x. refl; leader = λ x. refl; len = λ x. refl; state = λ x. refl; decided = λ x. decided x.led; few = λ x w. few x.led w }) p

  pub packets_of : KeepsPackets P (λ g. P) Anything Nothing (λ s. Given)
  unfolding with_tally tally_set tally_opened
  packets_of =
      record {
        keeping = keeping_of P rules.keeps;
        names = rules.names;
        reach = rules.reach;
        named = λ s g n e p. rules.leads s g n p;
        requested = λ s q v g a r phases x given to is used p. (rules.leads s g s.views.me p, inr tt);
        changes = λ s q v g a r phases x given to is used none fair. tt;
        joins = rules.joins;
        tells = rules.tells;
        comes = λ s q v g place stable e bs given to is used at fits p. (rules.keeps.hands s g e [] 0 bs tt p, inr tt);
        follows = λ s g n e p. rules.leads s g n p;
        casts = λ s q v g proto phase a vote value message given is led runs p. counted s g (λ l. vote_cast l a vote value message l.tally) (λ l. cast_decided l a vote value message l.tally) (λ l w. cast_few l a vote value message l.tally w) p;
        fails = λ s g a t led e p. counted s g _ (λ l. refl) (λ l w. w) p;
        ticks = λ s g led p. counted s g _ (λ l. refl) (λ l w. w) p;
        reopens = λ s g led p. counted s g _ (λ l. refl) (λ l w. w) p;
      }

  pub on_owed_part : {s : Core} → P s → P (tick_owed s)
  on_owed_part p = at_owed_part P (beside_of P Any rules.keeps) p

  pub on_led_part : (f : Answering) {s : Core} → P s → P (tick_led f s)
  on_led_part f {s} p = at_led_part P (λ g. P) Anything Nothing (λ s. Given) packets_of f s p
