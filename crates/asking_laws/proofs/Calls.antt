-- What a call leaves at a node: what is outstanding has a spelling, and what is recorded is outstanding.
use Rattle.std.proofs.Common.{◌≡◌, ◌⊎◌, ℕ, ◌+◌, ◌≤◌, ◌<◌, List, [], ◌∷◌, ◌++◌, length, Option, Some, None, Bool, true, false, refl, sym, ap, ◌∙◌, subst, inl, inr, arith}
use Rattle.std.specs.Prelude.{◌==◌, ◌||◌, find, not, nat_le, nat_lt, if◌then◌else◌, Result, Ok, Err, fold}
use Rattle.std.specs.List.{last_or}
use Rattle.std.proofs.lemmas.Bool.Decides.{nat_tests}
use Rattle.rsct_packet.specs.declared.ids.ProviderId.{ProviderId}
use Rattle.rsct_packet.specs.Fields.{IsNode, IsU16, IsU32, IsProvider, IsSomeProviders}
use Rattle.rsct_packet.specs.Format.{EachFits}
use Rattle.rsct_packet.specs.Ids.{last_u32}
use Rattle.rsct_packet.specs.Providers.{differ}
use Rattle.rsct_packet.specs.Search.{Has}
use Rattle.rsct_packet.specs.Text.{IsName, is_name_of}
use Rattle.rsct_packet.proofs.HasLaws.{has_append, has_filter, find_has}
use Rattle.group_attr.specs.declared.attrs.Attrs.{Attrs}
use Rattle.group_attr.specs.declared.attrs.Phases.{Phases}
use Rattle.group_attr.specs.declared.attrs.Phases.TheVariants.{One}
use Rattle.group_attr.specs.Attrs.{first_fault}
use Rattle.group_attr.specs.Codec.{IsAttrs}
use Rattle.proposal_core.specs.declared.entry.Vote.{Vote}
use Rattle.proposal_core.specs.declared.proposal.Proposal.{Proposal}
use Rattle.proposal_core.specs.declared.proposal.Proposal.TheVariants.{Join, Leave, Expel, State, Message, Attributes}
use Rattle.proposal_core.specs.ProposalCodec.{IsProposal}
use Rattle.client_callbacks.specs.declared.ballot.Filled.{Filled}
use Rattle.client_callbacks.specs.Ballots.{is_within, value_limit, message_limit}
use Rattle.subscribe_core.specs.declared.subs.ClientToken.{ClientToken}
use Rattle.subscribe_core.specs.declared.subs.SubToken.{SubToken}
use Rattle.session_state.specs.declared.fault.Field.TheVariants as field
use Rattle.session_state.specs.declared.fault.GsFault.{GsFault}
use Rattle.session_state.specs.declared.fault.GsFault.TheVariants as fault
use Rattle.session_state.specs.declared.state.KeptBallot.{KeptBallot}
use Rattle.session_state.specs.declared.state.MemberToken.{MemberToken}
use Rattle.session_state.specs.declared.state.OpenPhase.{OpenPhase}
use Rattle.session_state.specs.declared.state.Provider.{Provider}
use Rattle.session_state.specs.declared.state.Request.{Request}
use Rattle.session_state.specs.declared.state.SessionState.{SessionState}
use Rattle.session_state.specs.State.{is_member_of, is_client_of, client_token}
use Rattle.session_state.specs.Calls.{max_targets, max_group_name, or_fault, fault_if, unless_fault, if_session, is_empty, client_fault, name_fault, hosts_fault, value_fault, message_fault, targets_fault, attributes_fault, collide_fault, spent_fault, init_fault, add_session, inited, new_provider, join_fault, join_asked, joined, asked, ask_fault, member_asks, request_made, left, expelled, state_changed, message_sent, member_changes, attributes_changed, vote_in, member_votes, voted, subscribe_fault, subscribe_taken, unsubscribe_fault, unsubscribe_taken, is_owned, end_session, goodbye_taken}
use Rattle.node_state.specs.declared.call.CallLine.{CallLine}
use Rattle.node_state.specs.declared.call.CallLine.TheVariants as call
use Rattle.node_state.specs.declared.happened.Happened.{Happened}
use Rattle.node_state.specs.declared.happened.Happened.TheVariants as happened
use Rattle.node_state.specs.declared.packet.Body.{Body}
use Rattle.node_state.specs.declared.packet.Packet.{Packet}
use Rattle.node_state.specs.declared.state.Core.{Core}
use Rattle.node_state.specs.State.{frozen, leader_of, recorded, with_sessions}
use Rattle.node_state.specs.Sending.{packet_on, send_on, sent, send_if_known, send_request_to, send_request, vote_of, send_kept_to, send_kept}
use Rattle.node_state.specs.Calls.{caller, subscriber, refuse_call, changed, ask_last, proposed, record_ballot, ballot_sent_if, cast_last, give_ballot, send_gone, send_all_gone, goodbye_said, take_call}
use Rattle.row_laws.proofs.hearing.Changes.{Sends}
use Rattle.row_laws.proofs.hearing.Rules.{request_sends, kept_sends, gone_sends}
use Rattle.asking_laws.specs.Requests.{CallFits, IsRequest, BodyFits, SentAreSpelled}

abbrev pub ProviderFits : Provider → Type 0
ProviderFits y = IsProvider y.provider × IsName y.group

abbrev pub RequestFits : Request → Type 0
RequestFits q = IsRequest q.provider q.request q.group q.proposal

-- what a node has of its providers and requests has a spelling
pub record Sound (s : SessionState) : Type 0 where
  pub last : s.last_request ≤ last_u32
  pub providers : (y : Provider) → Has y s.providers → ProviderFits y
  pub requests : (q : Request) → Has q s.requests → RequestFits q

-- ---- tests that found no fault

none_first : (a b : Option GsFault) → or_fault a b ≡ None → a ≡ None
none_first None b e = refl
none_first (Some f) b e = absurd cc

none_then : (a b : Option GsFault) → or_fault a b ≡ None → b ≡ None
none_then None b e = e
none_then (Some f) b e = absurd cc

not_faulty : (test : Bool) (f : GsFault) → fault_if test f ≡ None → test ≡ false
not_faulty true f e = absurd cc
not_faulty false f e = refl

not_not : (b : Bool) → not b ≡ false → b ≡ true
not_not true e = refl
not_not false e = absurd cc

neither : (a b : Bool) → (a || b) ≡ false → (a ≡ false) × (b ≡ false)
neither true b e = absurd cc
neither false b e = (refl, e)

name_fits : (most : ℕ) (name : List ℕ) → name_fault most name ≡ None → IsName name
unfolding name_fault
name_fits most name e =
    not_not (is_name_of name) (not_faulty (not (is_name_of name)) (fault.BadParameter field.Name) (none_then (fault_if (nat_lt most (length name)) fault.NameTooLong) (fault_if (not (is_name_of name)) (fault.BadParameter field.Name)) e))

unspent : (n : ℕ) → spent_fault n ≡ None → n ≤ last_u32 → n + 1 ≤ last_u32
unfolding spent_fault
unspent n e le = by (not_faulty (n == last_u32) fault.Spent e)
  where
    by : (n == 4294967295) ≡ false → n + 1 ≤ 4294967295
    by k = grind (arith, nat_tests)

number_fits : (n : ℕ) → n ≤ 4294967295 → IsU32 n
number_fits n le = omega arith

-- ---- what is taken

abbrev pub IfSound : Result SessionState GsFault → Type 0
IfSound (Ok t) = Sound t
IfSound (Err f) = Unit {0}

unless_sound : (o : Option GsFault) (t : SessionState) → (o ≡ None → Sound t) → IfSound (unless_fault o t)
unless_sound None t k = k refl
unless_sound (Some f) t k = tt

if_sound : (b : Bool) (r : Result SessionState GsFault) → IfSound r → IfSound (if_session b r)
if_sound true r k = tt
if_sound false r k = k

module _ (s : SessionState) (node : IsNode s.me) (inc : IsU32 s.inc) (k : Sound s) where
  -- ---- a join

  new_fits : (instance : ℕ) → IsU16 instance → spent_fault s.last_request ≡ None → IsProvider (new_provider s instance)
  new_fits instance fits e = record { node = node; inc = inc; instance = fits; join = number_fits (s.last_request + 1) (unspent s.last_request e k.last) }

  single_fits : (p : ProviderId) → IsProvider p → IsSomeProviders (p ∷ [])
  single_fits p fits = record { are = record { are = record { few = omega arith; apart = refl }; each = (fits, tt) }; some = omega arith }

  joined_sound : (t : ClientToken) (g : List ℕ) (instance : ℕ) (attrs : Attrs) → IsU16 instance → IsAttrs attrs → IfSound (joined s t g instance attrs)
  unfolding joined join_asked join_fault
  joined_sound t g instance attrs fits whole = unless_sound (join_fault s t g attrs) (join_asked s t g instance attrs) taken
    where
      p : ProviderId
      p = new_provider s instance

      y : Provider
      y = record { provider = p; client = t; group = g; takes_part = false; opened = None }

      r : Request
      r = record { provider = p; request = s.last_request + 1; group = g; phases = One; proposal = Join (p ∷ []) attrs None }

      taken : join_fault s t g attrs ≡ None → Sound (join_asked s t g instance attrs)
      taken e =
          let a = none_then (client_fault s t) _ e in
          let b = none_then (name_fault max_group_name g) _ a in
          let c = none_then (hosts_fault g) _ b in
          let d = none_then (attributes_fault (first_fault attrs g)) _ c in
          let spent : spent_fault s.last_request ≡ None = none_then _ (spent_fault s.last_request) d in
          let name : IsName g = name_fits max_group_name g (none_first (name_fault max_group_name g) _ a) in
          let new : IsProvider p = new_fits instance fits spent in
          let number : s.last_request + 1 ≤ last_u32 = unspent s.last_request spent k.last in
          record {
            last = number;
            providers = λ z i. came z name new (has_append z s.providers (y ∷ []) i);
            requests = λ q i. asks q name new (has_append q s.requests (r ∷ []) i);
          }
        where
          came : (z : Provider) → IsName g → IsProvider p → Has z s.providers ⊎ Has z (y ∷ []) → ProviderFits z
          came z name new (inl i) = k.providers z i
          came z name new (inr (inl e)) = subst ProviderFits (sym e) (new, name)
          came z name new (inr (inr i)) = absurd i

          asks : (q : Request) → IsName g → IsProvider p → Has q s.requests ⊎ Has q (r ∷ []) → RequestFits q
          asks q name new (inl i) = k.requests q i
          asks q name new (inr (inl e)) = subst RequestFits (sym e) (record { provider = new; number = new.join; group = name; proposal = (single_fits p new, (whole, tt)) })
          asks q name new (inr (inr i)) = absurd i

  -- ---- a request of a provider

  module _ (phases : Phases) (o : Option GsFault) (make : Provider → ℕ → Proposal) (made : (y : Provider) → IsProvider y.provider → o ≡ None → (r : ℕ) → IsU32 r → IsProposal (make y r)) where
    one_sound : (y : Provider) → Has y s.providers → IfSound (unless_fault (ask_fault s y o) (asked s y phases (make y)))
    unfolding asked ask_fault
    one_sound y there = unless_sound (ask_fault s y o) (asked s y phases (make y)) taken
      where
        r : Request
        r = record { provider = y.provider; request = s.last_request + 1; group = y.group; phases = phases; proposal = make y (s.last_request + 1) }

        taken : or_fault o (or_fault (collide_fault s y.provider) (spent_fault s.last_request)) ≡ None → Sound (asked s y phases (make y))
        taken e =
            let own : ProviderFits y = k.providers y there in
            let spent : spent_fault s.last_request ≡ None = none_then (collide_fault s y.provider) (spent_fault s.last_request) (none_then o (or_fault (collide_fault s y.provider) (spent_fault s.last_request)) e) in
            let free : o ≡ None = none_first o (or_fault (collide_fault s y.provider) (spent_fault s.last_request)) e in
            let next : s.last_request + 1 ≤ last_u32 = unspent s.last_request spent k.last in
            let number : IsU32 (s.last_request + 1) = number_fits (s.last_request + 1) next in
            record {
              last = next;
              providers = k.providers;
              requests = λ q i. asks q (record { provider = own.0; number = number; group = own.1; proposal = made y own.0 free (s.last_request + 1) number }) (has_append q s.requests (r ∷ []) i);
            }
          where
            asks : (q : Request) → RequestFits r → Has q s.requests ⊎ Has q (r ∷ []) → RequestFits q
            asks q new (inl i) = k.requests q i
            asks q new (inr (inl e)) = subst RequestFits (sym e) new
            asks q new (inr (inr i)) = absurd i

    made_sound : (m : MemberToken) → IfSound (request_made s m phases o make)
    unfolding request_made
    made_sound m = if_sound (is_empty s.sessions) (member_asks s (find (is_member_of m) s.providers) phases o make) (by (find (is_member_of m) s.providers) refl)
      where
        by : (z : Option Provider) → find (is_member_of m) s.providers ≡ z → IfSound (member_asks s z phases o make)
        by None e = tt
        by (Some y) e = one_sound y (find_has (is_member_of m) s.providers y e).0

  left_sound : (m : MemberToken) (phases : Phases) → IfSound (left s m phases)
  unfolding left
  left_sound m phases = made_sound phases None (λ x r. Leave x.provider r) (λ y fits e r number. (fits, number)) m

  some_fit : (out : List ProviderId) → EachFits IsProvider out → targets_fault out ≡ None → IsSomeProviders out
  unfolding targets_fault
  some_fit out each e =
      let a = neither (is_empty out || nat_lt max_targets (length out)) (not (differ out)) (not_faulty (is_empty out || nat_lt max_targets (length out) || not (differ out)) (fault.BadParameter field.Targets) e) in
      let b = neither (is_empty out) (nat_lt max_targets (length out)) a.0 in
      record { are = record { are = record { few = few (length out) b.1; apart = not_not (differ out) a.1 }; each = each }; some = some (length out) b.0 }
    where
      few : (n : ℕ) → nat_lt 64 n ≡ false → n ≤ 64
      few n e = grind (arith, nat_tests)

      some : (n : ℕ) → (n == 0) ≡ false → 1 ≤ n
      some n e = grind (arith, nat_tests)

  expelled_sound : (m : MemberToken) (phases : Phases) (out : List ProviderId) → EachFits IsProvider out → IfSound (expelled s m phases out)
  unfolding expelled
  expelled_sound m phases out each =
      made_sound phases (targets_fault out) (λ x r. Expel x.provider r out) (λ y fits e r number. (fits, (number, some_fit out each e))) m

  -- values have at most 1,024 bytes
  value_short : (value : List ℕ) → value_fault s (Some value) ≡ None → length value < 65536
  unfolding value_fault
  value_short value e = by (s.level == 1) (not_not (is_within (value_limit s.level) (Some value)) (not_faulty (not (is_within (value_limit s.level) (Some value))) (fault.BadParameter field.Value) e))
    where
      by : (b : Bool) → nat_le (length value) (if b then 256 else 1024) ≡ true → length value < 65536
      by true k = grind (arith, nat_tests)
      by false k = grind (arith, nat_tests)

  state_sound : (m : MemberToken) (phases : Phases) (value : List ℕ) → IfSound (state_changed s m phases value)
  unfolding state_changed
  state_sound m phases value =
      made_sound phases (value_fault s (Some value)) (λ x r. State x.provider r value) (λ y fits e r number. (fits, (number, value_short value e))) m

  message_short : (bytes : List ℕ) → message_fault bytes ≡ None → length bytes < 65536
  unfolding message_fault
  message_short bytes e = by (length bytes) (not_faulty (nat_lt message_limit (length bytes)) (fault.BadParameter field.Message) e)
    where
      by : (n : ℕ) → nat_lt 1024 n ≡ false → n < 65536
      by n k = grind (arith, nat_tests)

  message_sound : (m : MemberToken) (phases : Phases) (bytes : List ℕ) → IfSound (message_sent s m phases bytes)
  unfolding message_sent
  message_sound m phases bytes =
      made_sound phases (message_fault bytes) (λ x r. Message x.provider r bytes) (λ y fits e r number. (fits, (number, message_short bytes e))) m

  attributes_sound : (m : MemberToken) (phases : Phases) (attrs : Attrs) → IsAttrs attrs → IfSound (attributes_changed s m phases attrs)
  unfolding attributes_changed
  attributes_sound m phases attrs whole = if_sound (is_empty s.sessions) (member_changes s (find (is_member_of m) s.providers) phases attrs) (by (find (is_member_of m) s.providers) refl)
    where
      by : (z : Option Provider) → find (is_member_of m) s.providers ≡ z → IfSound (member_changes s z phases attrs)
      by None e = tt
      by (Some y) e =
          one_sound phases (attributes_fault (first_fault attrs y.group)) (λ x r. Attributes x.provider r attrs) (λ x fits free r number. (fits, (number, whole))) y (find_has (is_member_of m) s.providers y e).0

  -- ---- other calls

  inited_sound : (name : List ℕ) → IfSound (inited s name)
  unfolding inited add_session
  inited_sound name = unless_sound (init_fault s name) (add_session s name) (λ e. record { last = k.last; providers = k.providers; requests = k.requests })

  subscribed_sound : (t : ClientToken) (g : List ℕ) (known : Bool) → IfSound (subscribe_taken s t g known)
  unfolding subscribe_taken
  subscribed_sound t g known = unless_sound (subscribe_fault s t g known) _ (λ e. record { last = k.last; providers = k.providers; requests = k.requests })

  unsubscribed_sound : (t : ClientToken) (sub : SubToken) → IfSound (unsubscribe_taken s t sub)
  unfolding unsubscribe_taken
  unsubscribed_sound t sub = unless_sound (unsubscribe_fault s t sub) _ (λ e. record { last = k.last; providers = k.providers; requests = k.requests })

  ended_sound : (t : ClientToken) → IfSound (goodbye_taken s t)
  unfolding goodbye_taken end_session
  ended_sound t =
      unless_sound (client_fault s t) (end_session s t) (λ e. record {
        last = k.last;
        providers = λ y i. k.providers y (has_filter (λ (x : Provider). not (is_client_of t x)) y s.providers i).0;
        requests = λ q i. k.requests q (has_filter (λ (q : Request). not (is_owned s.providers t q.provider)) q s.requests i).0;
      })

  voted_sound : (m : MemberToken) (v : Vote) (value : Option (List ℕ)) → IfSound (voted s m v value)
  unfolding voted
  voted_sound m v value = if_sound (is_empty s.sessions) (member_votes s (find (is_member_of m) s.providers) v value) (by (find (is_member_of m) s.providers))
    where
      opened : (y : Provider) (o : Option OpenPhase) → IfSound (vote_in s y v value o)
      opened y None = tt
      opened y (Some o) = unless_sound _ _ (λ e. record { last = k.last; providers = k.providers; requests = k.requests })

      within : (y : Provider) (b : Bool) → IfSound (if b then vote_in s y v value y.opened else Err (fault.BadParameter field.Value))
      within y true = opened y y.opened
      within y false = tt

      by : (z : Option Provider) → IfSound (member_votes s z v value)
      by None = tt
      by (Some y) = within y (is_within (value_limit s.level) value)

-- ---- what is recorded of a request is outstanding

last_has : {A : Type 0} (xs : List A) (o : Option A) (x : A) → last_or o xs ≡ Some x → Has x xs ⊎ (o ≡ Some x)
last_has [] o x e = inr e
last_has (y ∷ ys) o x e = by (last_has ys (Some y) x e)
  where
    by : Has x ys ⊎ (Some y ≡ Some x) → Has x (y ∷ ys) ⊎ (o ≡ Some x)
    by (inl i) = inl (inr i)
    by (inr q) = let same : x ≡ y = cc in inl (inl same)

single_has : {A : Type 0} (x y : A) → Has x (y ∷ []) → x ≡ y
single_has x y (inl e) = e
single_has x y (inr z) = absurd z

-- it is the record of a request that is outstanding there
abbrev pub IsOutstanding : SessionState → Happened → Type 0
IsOutstanding t a = (q : Request) × Has q t.requests × (a ≡ happened.Asked q.provider q.request q.group q.proposal)

-- ---- what is sent

pub sent_more : (c : Core) (network to : ℕ) (b : Body) → BodyFits b → SentAreSpelled c.sends → SentAreSpelled (send_on c network to b).sends
unfolding send_on packet_on
sent_more c network to b fits k q i = by (has_append q c.sends (packet_on c network to b ∷ []) i)
  where
    by : Has q c.sends ⊎ Has q (packet_on c network to b ∷ []) → BodyFits q.body
    by (inl j) = k q j
    by (inr (inl e)) = subst (λ (z : Packet). BodyFits z.body) (sym e) fits
    by (inr (inr z)) = absurd z

request_sent : (c : Core) (q : Request) → RequestFits q → SentAreSpelled c.sends → SentAreSpelled (send_request c q).sends
unfolding send_request send_request_to sent
request_sent c q fits k = by (frozen c)
  where
    to : (o : Option ℕ) → SentAreSpelled (send_request_to c q o).sends
    to None = sent_more c _ _ _ tt k
    to (Some n) = sent_more c _ _ _ fits k

    by : (b : Bool) → SentAreSpelled (elim b as (λ _. Core) [ true ↦ c | false ↦ send_request_to c q (leader_of c q.group) ]).sends
    by true = k
    by false = to (leader_of c q.group)

known_sent : (c : Core) (o : Option ℕ) (b : Body) → BodyFits b → SentAreSpelled c.sends → SentAreSpelled (send_if_known c o b).sends
unfolding send_if_known sent
known_sent c None b fits k = k
known_sent c (Some n) b fits k = sent_more c _ _ b fits k

kept_sent : (c : Core) (b : KeptBallot) → SentAreSpelled c.sends → SentAreSpelled (send_kept c b).sends
unfolding send_kept send_kept_to vote_of
kept_sent c b k = by b.ballot.filled
  where
    by : (o : Option Filled) → SentAreSpelled (send_kept_to c b (leader_of c b.group) o).sends
    by None = k
    by (Some f) = known_sent c (leader_of c b.group) _ tt k

gone_sent : (c : Core) (xs : List Provider) → SentAreSpelled c.sends → SentAreSpelled (send_all_gone c xs).sends
unfolding send_all_gone send_gone
gone_sent c xs k = by (frozen c)
  where
    all : (xs : List Provider) (c : Core) → SentAreSpelled c.sends → SentAreSpelled (fold send_gone c xs).sends
    all [] c k = k
    all (x ∷ xs) c k = all xs (send_gone c x) (known_sent c (leader_of c x.group) _ tt k)

    by : (b : Bool) → SentAreSpelled (elim b as (λ _. Core) [ true ↦ c | false ↦ fold send_gone c xs ]).sends
    by true = k
    by false = all xs c k

-- what a call leaves of the sessions, of the records and of what is sent
record Kept (c : Core) : Type 0 where
  sound : Sound c.sessions
  sent : SentAreSpelled c.sends
  asked : (p : ProviderId) (r : ℕ) (g : List ℕ) (x : Proposal) → Has (happened.Asked p r g x) c.records → IsOutstanding c.sessions (happened.Asked p r g x)

module _ (s : Core) (none : s.records ≡ []) (silent : s.sends ≡ []) (k : Sound s.sessions) where
  nothing_sent : SentAreSpelled s.sends
  nothing_sent q i = absurd (subst (Has q) silent i)

  lone : (r : Happened) → s.records ++ r ∷ [] ≡ r ∷ []
  lone r = ap (λ (rs : List Happened). rs ++ r ∷ []) none

  -- a record that is none of a request
  no_request : (c : Core) (r : Happened) → c.records ≡ r ∷ [] → ((p : ProviderId) (n : ℕ) (g : List ℕ) (x : Proposal) → happened.Asked p n g x ≡ r → ⊥) → Sound c.sessions → SentAreSpelled c.sends → Kept c
  no_request c r is other sound sent = record { sound = sound; sent = sent; asked = λ p n g x i. absurd (other p n g x (single_has _ _ (subst (Has (happened.Asked p n g x)) is i))) }

  no_record : (c : Core) → c.records ≡ [] → Sound c.sessions → SentAreSpelled c.sends → Kept c
  no_record c is sound sent = record { sound = sound; sent = sent; asked = λ p n g x i. absurd (subst (Has (happened.Asked p n g x)) is i) }

  refused_kept : (client : List ℕ) (f : GsFault) → Kept (refuse_call s client f)
  unfolding refuse_call recorded
  refused_kept client f = no_request _ (happened.Refused s.views.me client f) (lone (happened.Refused s.views.me client f)) (λ p n g x e. cc) k nothing_sent

  changed_kept : (client : List ℕ) (r : Result SessionState GsFault) → IfSound r → Kept (changed s client r)
  unfolding changed with_sessions
  changed_kept client (Ok t) j = no_record (record s { sessions = t }) none j nothing_sent
  changed_kept client (Err f) j = refused_kept client f

  proposed_kept : (client : List ℕ) (r : Result SessionState GsFault) → IfSound r → Kept (proposed s client r)
  unfolding proposed ask_last with_sessions recorded
  proposed_kept client (Err f) j = refused_kept client f
  proposed_kept client (Ok t) j = by (last_or None t.requests) refl
    where
      d : Core
      d = record s { sessions = t }

      by : (o : Option Request) → last_or None t.requests ≡ o → Kept (ask_last d o)
      by None e = no_record d none j nothing_sent
      by (Some q) e = asking (last_has t.requests None q e)
        where
          a : Happened
          a = happened.Asked q.provider q.request q.group q.proposal

          n : Sends (recorded d a) (send_request (recorded d a) q)
          n = request_sends (recorded d a) q

          is : (send_request (recorded d a) q).records ≡ a ∷ []
          is = n.records ∙ lone a

          asking : Has q t.requests ⊎ (None ≡ Some q) → Kept (send_request (recorded d a) q)
          asking (inr z) = absurd cc
          asking (inl i) =
              record {
                sound = subst Sound (sym n.sessions) j;
                sent = request_sent (recorded d a) q (j.requests q i) nothing_sent;
                asked = λ p m g x h. subst (λ z. IsOutstanding z (happened.Asked p m g x)) (sym n.sessions) (q, i, single_has _ _ (subst (Has (happened.Asked p m g x)) is h));
              }

  given_kept : (client : List ℕ) (r : Result SessionState GsFault) → IfSound r → Kept (give_ballot s client r)
  unfolding give_ballot cast_last record_ballot ballot_sent_if with_sessions recorded
  given_kept client (Err f) j = refused_kept client f
  given_kept client (Ok t) j = by (last_or None t.kept)
    where
      d : Core
      d = record s { sessions = t }

      same : (c : Core) (b : KeptBallot) → Kept c → Kept (send_kept c b)
      same c b h =
          let n = kept_sends c b in
          record { sound = subst Sound (sym n.sessions) h.sound; sent = kept_sent c b h.sent; asked = λ p m g x i. subst (λ z. IsOutstanding z (happened.Asked p m g x)) (sym n.sessions) (h.asked p m g x (subst (Has (happened.Asked p m g x)) n.records i)) }

      passed : (c : Core) (b : KeptBallot) (t : Bool) → Kept c → Kept (ballot_sent_if c b t)
      passed c b true h = h
      passed c b false h = same c b h

      filled : (b : KeptBallot) (o : Option Filled) → Kept (record_ballot d b o)
      filled b None = no_record d none j nothing_sent
      filled b (Some f) = no_request _ (happened.Cast b.provider b.proto b.phase f.vote f.value f.message) (lone _) (λ p n g x e. cc) j nothing_sent

      by : (o : Option KeptBallot) → Kept (cast_last d o)
      by None = no_record d none j nothing_sent
      by (Some b) = passed (record_ballot d b b.ballot.filled) b (frozen d) (filled b b.ballot.filled)

  said_kept : (client : List ℕ) (ended : List Provider) (r : Result SessionState GsFault) → IfSound r → Kept (goodbye_said s client ended r)
  unfolding goodbye_said with_sessions
  said_kept client ended (Err f) j = refused_kept client f
  said_kept client ended (Ok t) j =
      let d : Core = record s { sessions = t } in
      let n : Sends d (send_all_gone d ended) = gone_sends d ended in
      no_record (send_all_gone d ended) (n.records ∙ none) (subst Sound (sym n.sessions) j) (gone_sent d ended nothing_sent)

  module _ (node : IsNode s.sessions.me) (inc : IsU32 s.sessions.inc) where
    call_kept : (d : CallLine) → CallFits d → Kept (take_call s d)
    unfolding take_call
    call_kept (call.Init n name votes) fits = changed_kept name (inited s.sessions name) (inited_sound s.sessions node inc k name)
    call_kept (call.Join client g instance attrs) fits =
        proposed_kept client (joined s.sessions (client_token s.sessions client) g instance attrs) (joined_sound s.sessions node inc k (client_token s.sessions client) g instance attrs fits.0 fits.1)
    call_kept (call.Leave client g phases) fits = proposed_kept client (left s.sessions (caller s.sessions client g) phases) (left_sound s.sessions node inc k (caller s.sessions client g) phases)
    call_kept (call.Expel client g phases out) fits =
        proposed_kept client (expelled s.sessions (caller s.sessions client g) phases out) (expelled_sound s.sessions node inc k (caller s.sessions client g) phases out fits)
    call_kept (call.ChangeState client g phases value) fits =
        proposed_kept client (state_changed s.sessions (caller s.sessions client g) phases value) (state_sound s.sessions node inc k (caller s.sessions client g) phases value)
    call_kept (call.SendMessage client g phases bytes) fits =
        proposed_kept client (message_sent s.sessions (caller s.sessions client g) phases bytes) (message_sound s.sessions node inc k (caller s.sessions client g) phases bytes)
    call_kept (call.ChangeAttributes client g phases attrs) fits =
        proposed_kept client (attributes_changed s.sessions (caller s.sessions client g) phases attrs) (attributes_sound s.sessions node inc k (caller s.sessions client g) phases attrs fits)
    call_kept (call.Vote client g v value) fits = given_kept client (voted s.sessions (caller s.sessions client g) v value) (voted_sound s.sessions node inc k (caller s.sessions client g) v value)
    call_kept (call.Subscribe client g) fits = changed_kept client _ (subscribed_sound s.sessions node inc k (client_token s.sessions client) g _)
    call_kept (call.Unsubscribe client g) fits = changed_kept client _ (unsubscribed_sound s.sessions node inc k (client_token s.sessions client) (subscriber s.sessions client g))
    call_kept (call.Goodbye client) fits = said_kept client _ (goodbye_taken s.sessions (client_token s.sessions client)) (ended_sound s.sessions node inc k (client_token s.sessions client))

    pub called_sound : (d : CallLine) → CallFits d → Sound (take_call s d).sessions
    called_sound d fits = (call_kept d fits).sound

    pub called_sent : (d : CallLine) → CallFits d → SentAreSpelled (take_call s d).sends
    called_sent d fits = (call_kept d fits).sent

    pub called_asked : (d : CallLine) → CallFits d → (p : ProviderId) (r : ℕ) (g : List ℕ) (x : Proposal) → Has (happened.Asked p r g x) (take_call s d).records → IsOutstanding (take_call s d).sessions (happened.Asked p r g x)
    called_asked d fits = (call_kept d fits).asked
