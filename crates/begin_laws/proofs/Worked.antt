-- What is said of what begins, computed on short runs: what it accepts, and what it refuses.
use Rattle.std.proofs.Common.{◌≡◌, ℕ, [], ◌∷◌, Some, true, false, refl, sym, subst, inl, inr, arith}
use Rattle.std.specs.Prelude.{codes}
use Rattle.rsct_packet.specs.declared.ids.ProviderId.{ProviderId}
use Rattle.rsct_packet.specs.Search.{Has}
use Rattle.group_attr.specs.declared.attrs.Phases.TheVariants.{One, Many}
use Rattle.proposal_core.specs.declared.entry.Entry.TheVariants.{Once, Begin}
use Rattle.node_state.specs.declared.call.CallLine.{CallLine}
use Rattle.node_state.specs.declared.call.CallLine.TheVariants as call
use Rattle.node_state.specs.declared.happened.Happened.TheVariants.{Asked, Base, Put}
use Rattle.world_model.specs.declared.event.Event.TheVariants.{Call}
use Rattle.run_safety.specs.Past.{records_of}
use Rattle.entry_laws.specs.source_order.Sources.{PutBefore}
use Rattle.begin_laws.specs.Begins.{AsksIn, AskedIn, IsBatch, BeginsAsMeant}
use Rattle.begin_laws.specs.Samples.{provider, stranger, a_client, db, view, alone, red, asked, puts, both_join}

-- nobody has put that place
never_put : (p : ProviderId) → PutBefore (records_of (asked p)) view db 0 → ⊥
never_put p k = by k.2
  where
    by : Has (Put k.0 view db 0 k.1) (records_of (asked p)) → ⊥
    by (inl e) = cc
    by (inr (inl e)) = cc
    by (inr (inr z)) = z

abbrev asking : CallLine
asking = call.ChangeState a_client db Many (codes "red")

line_is : (n m : ℕ) (c d : CallLine) → Some (Call n c) ≡ Some (Call m d) → c ≡ d
line_is n m c d e = cc

-- who asked for a vote did not ask for none
one_is_not_asked : AskedIn (record { event = (puts (Once (red provider))).event; records = [] } ∷ asked provider) provider 2 db (red provider) One → ⊥
one_is_not_asked (inl a) = a.recorded
one_is_not_asked (inr (inl a)) =
    let k : AsksIn asking One = subst (λ (z : CallLine). AsksIn z One) (sym (line_is 1 1 asking a.line a.is)) a.asks in cc
one_is_not_asked (inr (inr (inl a))) = by a.recorded
  where
    by : Has (Asked provider 2 db (red provider)) (Base 1 view db view 0 alone ∷ []) → ⊥
    by (inl e) = cc
    by (inr z) = z
one_is_not_asked (inr (inr (inr z))) = z

pub skipped_vote_is_refused : BeginsAsMeant (puts (Once (red provider))) (asked provider) → ⊥
skipped_vote_is_refused k = one_is_not_asked (k.0 (never_put provider)).asked

pub vote_is_accepted : BeginsAsMeant (puts (Begin (red provider))) (asked provider)
vote_is_accepted = (λ first. record { asked = inr (inl (record { line = asking; is = refl; asks = refl; recorded = inl refl })); member = refl; living = refl; expelled = λ q i. absurd i }, tt)

pub strangers_change_is_refused : BeginsAsMeant (puts (Begin (red stranger))) (asked stranger) → ⊥
strangers_change_is_refused k = let m : false ≡ true = (k.0 (never_put stranger)).member in cc

pub unasked_batch_is_refused : BeginsAsMeant (puts (Once both_join)) (asked provider) → ⊥
unasked_batch_is_refused k = by (k.0 (never_put provider)).1
  where
    by : IsBatch false (provider ∷ stranger ∷ []) → ⊥
    by (inl e) = cc
    by (inr le) = omega (arith, le)
