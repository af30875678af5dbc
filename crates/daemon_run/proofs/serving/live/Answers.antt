-- What is left of a daemon that began, by how it ended.
use Rattle.daemon_run.specs.Audience.{Attend}
use Rattle.daemon_run.proofs.EndLaws.{read_at, serves_left, serves_front, left_begun, left_served}
use Rattle.daemon_run.proofs.serving.live.Goals as goal

pub returns-in-Ok-begin-clause-served : goal.returns-in-Ok-begin-clause-served
returns-in-Ok-begin-clause-served g c =
    serves_left (Attend g.C.Callbacks.stands_for g.C.Callbacks.script) c.args.serving.options c.args.script.now c.args.serving.me c.args.serving.incarnation c.in-Ok.running.last c.args.serving.turns c.begin.new.self c.serve_turns-end.new.self _ _ _ _ c.left.result c.serve_turns-end.result c.left.ensures
    (read_at c.in-Ok.running c.args.serving.options.service c.args.script.now.config c.args.serving.me c.args.serving.incarnation c.now-moment.result _ _ c.in-Ok.ensures c.now-moment.ensures.read) c.in-Ok-begin.ensures.done c.serve_turns-end.ensures.done

pub returns-in-Ok-begin-clause-left : goal.returns-in-Ok-begin-clause-left
returns-in-Ok-begin-clause-left g c =
    left_served c.args.serving.options c.args.script.now c.args.serving.me c.args.serving.incarnation c.in-Ok.running.last c.args.serving.turns c.begin.new.self c.serve_turns-end.new.self _ _ _ _ c.left.result c.serve_turns-end.result c.left.ensures
    (read_at c.in-Ok.running c.args.serving.options.service c.args.script.now.config c.args.serving.me c.args.serving.incarnation c.now-moment.result _ _ c.in-Ok.ensures c.now-moment.ensures.read)
    c.in-Ok-begin.ensures.done c.serve_turns-end.ensures.stops c.serve_turns-end.ensures.done c.serve_turns-end.ensures.ended c.serve_turns-end.ensures.paused c.serve_turns-end.ensures.unwritten

pub returns-in-Ok-begin-clause-ever : goal.returns-in-Ok-begin-clause-ever
returns-in-Ok-begin-clause-ever g c = λ other.
    serves_front c.args.serving.options c.args.script.now c.args.serving.me c.args.serving.incarnation c.in-Ok.running.last c.args.serving.turns c.begin.new.self _ _ _ _
    (read_at c.in-Ok.running c.args.serving.options.service c.args.script.now.config c.args.serving.me c.args.serving.incarnation c.now-moment.result _ _ c.in-Ok.ensures c.now-moment.ensures.read) c.in-Ok-begin.ensures.done (c.serve_turns-end.ensures.ever other)

pub returns-in-Err-clause-left : goal.returns-in-Err-clause-left
returns-in-Err-clause-left g c =
    left_begun c.args.serving.options c.args.script.now c.args.serving.me c.args.serving.incarnation c.in-Ok.running.last c.args.serving.turns c.begin.new.self _ _ _ c.left-in-Err.result c.in-Err.stop c.left-in-Err.ensures
    (read_at c.in-Ok.running c.args.serving.options.service c.args.script.now.config c.args.serving.me c.args.serving.incarnation c.now-moment.result _ _ c.in-Ok.ensures c.now-moment.ensures.read)
    c.in-Err.ensures.fault c.in-Err.ensures.unwritten
