use Rattle.std.proofs.Common.{[], refl, sym, ◌∙◌}
use Rattle.std.proofs.lemmas.List.{append-nil}
use Rattle.rsct_packet.specs.declared.ids.ProviderId.{ProviderId}
use Rattle.session_clients.specs.Notices.{notified}
use Rattle.session_clients.proofs.Keeping.{keeps_more}
use Rattle.session_clients.proofs.Standing.{casts_one_more}
use Rattle.session_clients.proofs.clients.notify.Goals as goal

abbrev no_provider : ProviderId
no_provider = record { node = 0; inc = 0; instance = 0; join = 0 }

pub loop-p-init : goal.loop-p-init
unfolding notified
loop-p-init g c = record { scripts = refl; length = refl; others = λ k quiet. refl; casts = ([], tt, sym (append-nil _), λ hs s. s) }

pub loop-p-preserved : goal.loop-p-preserved
loop-p-preserved g c =
    record {
      scripts = c.in_ok-cast.ensures.scripts ∙ c.loop-p.invariant.scripts;
      length = c.in_ok-cast.ensures.length ∙ c.loop-p.invariant.length;
      others = keeps_more c.args.state.now c.args.providers.now c.loop-p.p-index no_provider c.args.clients.now.items c.loop-p.clients.items c.notify_one.new.clients.items c.loop-p-test.true c.loop-p.invariant.others c.in_ok-cast.ensures.others;
      casts =
          casts_one_more g.C.Callbacks.stands_for c.args.clients.now.items c.loop-p.clients.items c.notify_one.new.clients.items _ c.args.state.now c.args.entry.now.view c.args.entry.now.group.now c.args.entry.now.place c.args.entry.now.entry.now c.args.entry.now.after.now c.args.providers.now c.loop-p.p-index no_provider c.loop-p.invariant.casts.0 c.in_ok-cast.ensures.cast.0 _ _ _ _
          c.loop-p-test.true c.loop-p.invariant.casts.1 (rw (← c.loop-p.invariant.scripts) c.in_ok-cast.ensures.cast.1) c.loop-p.invariant.casts.2 c.in_ok-cast.ensures.cast.2 c.in_ok-push.ensures.ok c.loop-p.invariant.casts.3 c.in_ok-cast.ensures.stand;
    }

pub returns-in_err-cast-clause-others : goal.returns-in_err-cast-clause-others
returns-in_err-cast-clause-others g c = keeps_more c.args.state.now c.args.providers.now c.loop-p.p-index no_provider c.args.clients.now.items c.loop-p.clients.items c.notify_one.new.clients.items c.loop-p-test.true c.loop-p.invariant.others c.in_err-cast.ensures.others

pub returns-in_err-push-clause-others : goal.returns-in_err-push-clause-others
returns-in_err-push-clause-others g c = keeps_more c.args.state.now c.args.providers.now c.loop-p.p-index no_provider c.args.clients.now.items c.loop-p.clients.items c.notify_one.new.clients.items c.loop-p-test.true c.loop-p.invariant.others c.in_ok-cast.ensures.others
