-- The first words of lines, in four tables.
use Rattle.std.specs.Prelude.{List, [], ◌∷◌, Option, Some, None, codes}
use Rattle.value_words.specs.Words.{Choice}
use Rattle.world_model.specs.Lines.{Head, HMode, HNode, HAdapter, HHb, HPort, HLevel, HDomain, HBegin, HStart, HStop, HAsk, HTick, HRun, HDeliver, HDrop, HFlow, HCut, HHeal, HGarbage, HShow, HClient, HJoin, HLeave, HExpel, HState, HMessage, HAttrs, HVote, HSubscribe, HUnsubscribe, HGoodbye, Form, form, form_from, form_to}
use Rattle.script_words.specs.declared.heads.Head.{Head as LineHead}
use Rattle.script_words.specs.declared.heads.Head.TheVariants as head
use Rattle.script_words.specs.declared.heads.Form.{Form as LineForm}

abbrev pub head_seen : LineHead → Head
head_seen head.Mode = HMode
head_seen head.Node = HNode
head_seen head.Adapter = HAdapter
head_seen head.Hb = HHb
head_seen head.Port = HPort
head_seen head.Level = HLevel
head_seen head.Domain = HDomain
head_seen head.Begin = HBegin
head_seen head.Start = HStart
head_seen head.Stop = HStop
head_seen head.Ask = HAsk
head_seen head.Tick = HTick
head_seen head.Run = HRun
head_seen head.Deliver = HDeliver
head_seen head.Drop = HDrop
head_seen head.Flow = HFlow
head_seen head.Cut = HCut
head_seen head.Heal = HHeal
head_seen head.Garbage = HGarbage
head_seen head.Show = HShow
head_seen head.Client = HClient
head_seen head.Join = HJoin
head_seen head.Leave = HLeave
head_seen head.Expel = HExpel
head_seen head.State = HState
head_seen head.Message = HMessage
head_seen head.Attrs = HAttrs
head_seen head.Vote = HVote
head_seen head.Subscribe = HSubscribe
head_seen head.Unsubscribe = HUnsubscribe
head_seen head.Goodbye = HGoodbye

abbrev pub form_seen : LineForm → Form
form_seen f = record { head = head_seen f.head; least = f.least; most = f.most }

abbrev pub frequent_forms : List (Choice Form)
frequent_forms =
    form (codes "flow") HFlow 0
    ∷ form (codes "deliver") HDeliver 3
    ∷ form_from (codes "join") HJoin 3
    ∷ form (codes "message") HMessage 4
    ∷ form (codes "state") HState 4
    ∷ form (codes "vote") HVote 3
    ∷ form (codes "client") HClient 3
    ∷ form_from (codes "ask") HAsk 2
    ∷ []

abbrev pub node_forms : List (Choice Form)
node_forms =
    form (codes "start") HStart 1
    ∷ form (codes "stop") HStop 1
    ∷ form (codes "tick") HTick 1
    ∷ form (codes "run") HRun 1
    ∷ form (codes "drop") HDrop 2
    ∷ form_to (codes "cut") HCut 2 3
    ∷ form_to (codes "heal") HHeal 2 3
    ∷ form (codes "garbage") HGarbage 2
    ∷ []

abbrev pub group_forms : List (Choice Form)
group_forms =
    form (codes "show") HShow 2
    ∷ form (codes "leave") HLeave 3
    ∷ form_from (codes "expel") HExpel 4
    ∷ form_from (codes "attrs") HAttrs 3
    ∷ form (codes "subscribe") HSubscribe 2
    ∷ form (codes "unsubscribe") HUnsubscribe 2
    ∷ form (codes "goodbye") HGoodbye 1
    ∷ form (codes "mode") HMode 1
    ∷ []

abbrev pub setting_forms : List (Choice Form)
setting_forms =
    form (codes "node") HNode 1
    ∷ form (codes "adapter") HAdapter 3
    ∷ form (codes "hb") HHb 2
    ∷ form (codes "port") HPort 1
    ∷ form (codes "level") HLevel 2
    ∷ form (codes "domain") HDomain 1
    ∷ form (codes "begin") HBegin 0
    ∷ []
