-- A rule of views leaves the node in its view.
use Rattle.view_state.specs.Views.{views_at_work}
use Rattle.node_state.specs.declared.state.Core.{Core}
use Rattle.row_laws.proofs.hearing.InView.{InView, stay_asks, stay_prepares, stay_answers, stay_refuses, stay_installs, stay_takes, stay_ticks, stay_reminds}
use Rattle.step_walk.proofs.Changes.{Viewing, Asks, Prepares, Answers, Refuses, Installs, Takes, Gathers, Reminds, viewing}

pub stays_in : (s : Core) (v : Viewing) → InView (views_at_work s.views) (viewing s v)
stays_in s (Asks mask) = stay_asks (views_at_work s.views) mask _
stays_in s (Prepares from inc v mask) = stay_prepares (views_at_work s.views) from inc v mask _
stays_in s (Answers v a) = stay_answers (views_at_work s.views) v a
stays_in s (Refuses v n) = stay_refuses (views_at_work s.views) v n
stays_in s (Installs i) = stay_installs (views_at_work s.views) i
stays_in s (Takes from v) = stay_takes (views_at_work s.views) from v
stays_in s Gathers = stay_ticks (views_at_work s.views) _ _
stays_in s Reminds = stay_reminds (views_at_work s.views)
