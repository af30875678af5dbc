-- A copy that begins with a notice, whatever that is; and a copy from view to view.
use Rattle.std.proofs.Common.{◌≡◌, ℕ, ◌+◌, Bool, true, false, cond, List, [], ◌∷◌, ◌++◌, Option, Some, None, refl, sym, ap, subst, ◌∙◌, append-nil, append_assoc}
use Rattle.std.specs.Prelude.{IfSome, slice_get, if◌then◌else◌}
use Rattle.std.specs.List.{fold}
use Rattle.std.proofs.lemmas.List.Sums.{fold-append}
use Rattle.rsct_packet.specs.declared.ids.ProviderId.{ProviderId}
use Rattle.rsct_packet.specs.declared.ids.ViewId.{ViewId}
use Rattle.rsct_packet.specs.Lists.{is_empty}
use Rattle.rsct_packet.specs.Providers.{among}
use Rattle.proposal_core.specs.declared.proposal.Proposal.{Proposal}
use Rattle.proposal_core.specs.declared.proposal.Proposal.TheVariants.{Join, Leave, Fail, Expel, State, Message, Attributes, Reflect}
use Rattle.proposal_core.specs.declared.entry.Entry.{Entry}
use Rattle.proposal_core.specs.declared.entry.Entry.TheVariants.{Once, Begin, Phase, Approve, Reject, Late}
use Rattle.proposal_core.specs.declared.group_state.GroupState.{GroupState}
use Rattle.proposal_core.specs.Fold.{after}
use Rattle.client_callbacks.specs.declared.ballot.Filled.{Filled}
use Rattle.client_callbacks.specs.Handed.{NoticeView, Handed, Notified, Informed}
use Rattle.node_state.specs.declared.happened.Happened.{Happened}
use Rattle.node_state.specs.declared.happened.Happened.TheVariants as happened
use Rattle.node_state.specs.Handed.{Logged}
use Rattle.entry_delivery.specs.Received.{ballot_behind, handed_if, handed_by}
use Rattle.agreed_table.specs.Pairs.{Pairs}
use Rattle.table_client.specs.Rules.{Copied, fresh_copy, closed_in, is_own, kept_of, with_chunk, with_effect, with_members, with_place, copy_after, effect_of, joined_map, taken, copies_then, noticed, informed, FilledBy}
use Rattle.table_client.specs.Apart.{own_then}
use Rattle.table_client.specs.Maps.{Lists, state_at, AreSafe, message_map, MapIs, Then}
use Rattle.table_client.specs.Sharing.{AreChunksOf}
use Rattle.table_client.specs.Following.{CopyIs, begins_own, Tells, First}
use Rattle.table_client.proofs.MapLaws.{state_next}
use Rattle.table_client.proofs.FollowingLaws.{copies_follow}

-- ---- what a notice keeps

cond_group : (b : Bool) (c d : Copied) → d.group ≡ c.group → (cond b d c).group ≡ c.group
cond_group true c d q = q
cond_group false c d q = refl

taken_group : (n : NoticeView) (c : Copied) (o : Option Proposal) → (taken n c o).group ≡ c.group
taken_group n c None = refl
taken_group n c (Some (Join ps attrs k)) = cond_group (among ps n.provider) c (record c { map = joined_map n c ps; chunks = [] }) refl
taken_group n c (Some (Leave p r)) = refl
taken_group n c (Some (Fail out)) = refl
taken_group n c (Some (Expel p r out)) = refl
taken_group n c (Some (State p r value)) = refl
taken_group n c (Some (Message p r bytes)) = refl
taken_group n c (Some (Attributes p r attrs)) = refl
taken_group n c (Some (Reflect view place value)) = refl

chunk_group : (n : NoticeView) (c : Copied) → (with_chunk n c).group ≡ c.group
unfolding with_chunk
chunk_group n c = cond_group (is_own n.provider c.running) c (record c { chunks = kept_of c.chunks (closed_in n.entry) }) refl

effect_group : (n : NoticeView) (c : Copied) → (with_effect n c).group ≡ c.group
unfolding with_effect
effect_group n c = taken_group n c (effect_of n.entry c.running)

members_group : (n : NoticeView) (c : Copied) → (with_members n c).group ≡ c.group
unfolding with_members
members_group n c = cond_group (is_empty n.after.members) c (record c { map = Some [] }) refl

pub after_place : (n : NoticeView) (c : Copied) → ((copy_after n c).group ≡ c.group) × ((copy_after n c).view ≡ n.view) × ((copy_after n c).len ≡ n.place + 1)
unfolding copy_after with_place
after_place n c = (members_group n (with_effect n (with_chunk n c)) ∙ effect_group n (with_chunk n c) ∙ chunk_group n c, refl, refl)

pub after_running : (n : NoticeView) (c : Copied) → (copy_after n c).running ≡ n.after.running
unfolding copy_after with_place
after_running n c = refl

-- ---- a copy that is new

-- one whose own join takes effect, or not
abbrev joined_if : NoticeView → List ProviderId → Bool → Copied
joined_if n ps b = if b then record (fresh_copy n) { map = joined_map n (fresh_copy n) ps; chunks = [] } else fresh_copy n

-- what takes effect leaves it without a map, unless its own join begins
fresh_effect : (n : NoticeView) (e : Entry) → begins_own n.provider e ≡ false → ((taken n (fresh_copy n) (effect_of e None)).map ≡ None) × ((taken n (fresh_copy n) (effect_of e None)).chunks ≡ [])
fresh_effect n (Once (Join ps attrs k)) other = (ap (λ b. (joined_if n ps b).map) other, ap (λ b. (joined_if n ps b).chunks) other)
fresh_effect n (Once (Leave p r)) other = (refl, refl)
fresh_effect n (Once (Fail out)) other = (refl, refl)
fresh_effect n (Once (Expel p r out)) other = (refl, refl)
fresh_effect n (Once (State p r value)) other = (refl, refl)
fresh_effect n (Once (Message p r bytes)) other = (refl, refl)
fresh_effect n (Once (Attributes p r attrs)) other = (refl, refl)
fresh_effect n (Once (Reflect view place value)) other = (refl, refl)
fresh_effect n (Begin y) other = (refl, refl)
fresh_effect n (Phase c) other = (refl, refl)
fresh_effect n (Approve c) other = (refl, refl)
fresh_effect n (Reject c) other = (refl, refl)
fresh_effect n (Late proto phase ps) other = (refl, refl)

abbrev pub whole_if : Copied → Bool → Copied
whole_if c b = if b then record c { map = Some [] } else c

members_map : (n : NoticeView) (c : Copied) (b : Bool) → is_empty n.after.members ≡ b → c.map ≡ None → c.chunks ≡ [] → ((with_members n c).map ≡ cond b (Some []) None) × ((with_members n c).chunks ≡ [])
unfolding with_members
members_map n c true q map chunks = (ap (λ b. (whole_if c b).map) q, ap (λ b. (whole_if c b).chunks) q ∙ chunks)
members_map n c false q map chunks = (ap (λ b. (whole_if c b).map) q ∙ map, ap (λ b. (whole_if c b).chunks) q ∙ chunks)

fresh_after : (n : NoticeView) (b : Bool) → is_empty n.after.members ≡ b → begins_own n.provider n.entry ≡ false → ((copy_after n (fresh_copy n)).map ≡ cond b (Some []) None) × ((copy_after n (fresh_copy n)).chunks ≡ [])
unfolding copy_after with_place with_effect with_chunk
fresh_after n b q other =
    let k = fresh_effect n n.entry other in
    members_map n (taken n (fresh_copy n) (effect_of n.entry None)) b q k.0 k.1

-- what a notice tells of the lists
abbrev pub Said : Lists → NoticeView → Type 0
Said x n = (slice_get (x.list n.view) n.place ≡ Some n.entry) × (n.after ≡ state_at x n.view (n.place + 1)) × ((m : Pairs) × MapIs x n.view n.place m)

-- so whatever a provider hears first, its copy is right behind it
pub copy_begins : (x : Lists) → AreSafe x → (n : NoticeView) → Said x n → CopyIs x n.provider (copy_after n (fresh_copy n))
copy_begins x safe n said = by (begins_own n.provider n.entry) refl
  where
    tells : Tells x (fresh_copy n) n
    tells = record { entry = said.0; after = said.1; mapped = said.2; carries = λ closed closes run m runs own at. absurd (let both : None ≡ Some run = runs in cc) }

    running : (copy_after n (fresh_copy n)).running ≡ (state_at x n.view (n.place + 1)).running
    running = after_running n (fresh_copy n) ∙ ap (λ (s : GroupState). s.running) said.1

    view : (copy_after n (fresh_copy n)).view ≡ n.view
    view = (after_place n (fresh_copy n)).1

    len : (copy_after n (fresh_copy n)).len ≡ n.place + 1
    len = (after_place n (fresh_copy n)).2

    after_is : n.after ≡ after (state_at x n.view n.place) n.view n.place n.entry
    after_is = said.1 ∙ state_next x n.view (n.place + 1) n.place n.entry refl said.0

    bare : (b : Bool) → is_empty n.after.members ≡ b → IfSome (cond b (Some []) None) (MapIs x n.view (n.place + 1))
    bare false q = tt
    bare true q =
        let s : GroupState = state_at x n.view n.place in
        let m : Pairs = said.2.0 in
        let nobody : is_empty (after s n.view n.place n.entry).members ≡ true = ap (λ (t : GroupState). is_empty t.members) (sym after_is) ∙ q in
        Then n.view (n.place + 1) [] n.place n.entry m refl (ap (λ (b : Bool). cond b [] (message_map (effect_of n.entry s.running) m)) (sym nobody)) said.0 said.2.1

    by : (b : Bool) → begins_own n.provider n.entry ≡ b → CopyIs x n.provider (copy_after n (fresh_copy n))
    by true own = copies_follow x (fresh_copy n) n safe tells (First own refl refl refl)
    by false other =
        let k = fresh_after n (is_empty n.after.members) refl other in
        record {
          map = subst (λ (z : Option Pairs × ViewId × ℕ). IfSome z.0 (MapIs x z.1 z.2)) (λ i. (sym k.0 i, sym view i, sym len i)) (bare (is_empty n.after.members) refl);
          running = running ∙ (λ i. (state_at x (sym view i) (sym len i)).running);
          chunks = λ run m runs own at. subst (AreChunksOf m) (sym k.1) tt;
        }

-- ---- a log, record by record

-- what becomes of the copy of a provider does not hang on what it fills
own_any : (p : ProviderId) (r : Happened) (s : GroupState) (a b : Option Filled) (o : Option Copied) → fold (own_then p) o (handed_if r s a) ≡ fold (own_then p) o (handed_if r s b)
own_any p (happened.Heard q v g i e members value) s a b o = refl
own_any p (happened.Told q r why) s a b o = refl
own_any p (happened.Noted n client v i t) s a b o = refl
own_any p _ s a b o = refl

-- what is handed by the front of a log, as its whole tells it
pub record Front (log rest : List Logged) : Type 0 where
  pub handed : List Handed
  pub is : handed_by (log ++ rest) ≡ handed ++ handed_by rest
  pub own : (p : ProviderId) (o : Option Copied) → fold (own_then p) o handed ≡ fold (own_then p) o (handed_by log)

pub front_of : (log rest : List Logged) → Front log rest
front_of [] rest = record { handed = []; is = refl; own = λ p o. refl }
front_of (l ∷ log) rest =
    let k = front_of log rest in
    record {
      handed = handed_if l.what l.after (ballot_behind (log ++ rest)) ++ k.handed;
      is = ap (λ hs. handed_if l.what l.after (ballot_behind (log ++ rest)) ++ hs) k.is ∙ sym (append_assoc (handed_if l.what l.after (ballot_behind (log ++ rest))) k.handed (handed_by rest));
      own = λ p o. fold-append (own_then p) o (handed_if l.what l.after (ballot_behind (log ++ rest))) k.handed
          ∙ ap (λ z. fold (own_then p) z k.handed) (own_any p l.what l.after (ballot_behind (log ++ rest)) (ballot_behind log) o)
          ∙ k.own p (fold (own_then p) o (handed_if l.what l.after (ballot_behind log)))
          ∙ sym (fold-append (own_then p) o (handed_if l.what l.after (ballot_behind log)) (handed_by log));
    }

-- one record more
pub own_more : (p : ProviderId) (log : List Logged) (l : Logged) → fold (own_then p) None (handed_by (log ++ l ∷ [])) ≡ fold (own_then p) (fold (own_then p) None (handed_by log)) (handed_if l.what l.after None)
own_more p log l =
    let k = front_of log (l ∷ []) in
    ap (fold (own_then p) None) k.is ∙ fold-append (own_then p) None k.handed (handed_by (l ∷ []))
    ∙ ap (λ z. fold (own_then p) z (handed_by (l ∷ []))) (k.own p None)
    ∙ ap (fold (own_then p) (fold (own_then p) None (handed_by log))) (append-nil (handed_if l.what l.after None))

-- the ballots behind what was handed first
pub filled_behind : (xs ys : List Handed) (copies : List Copied) → FilledBy copies (xs ++ ys) → FilledBy (fold copies_then copies xs) ys
filled_behind [] ys copies k = k
filled_behind (Notified n f ∷ xs) ys copies k = filled_behind xs ys (noticed n copies) k.1
filled_behind (Informed t ∷ xs) ys copies k = filled_behind xs ys (informed t copies) k
