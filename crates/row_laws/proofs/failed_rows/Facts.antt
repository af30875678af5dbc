-- What is said of rows, records and packets, and of who is over.
use Rattle.std.proofs.Common.{◌≡◌, ◌≢◌, ◌⊎◌, ℕ, List, [], ◌∷◌, ◌++◌, length, Option, Some, None, Bool, true, false, refl, sym, ap, ◌∙◌, subst, inl, inr, append_assoc}
use Rattle.std.specs.Prelude.{◌||◌, reverse}
use Rattle.std.specs.List.{list_any}
use Rattle.std.proofs.lemmas.List.{reverse-append}
use Rattle.rsct_packet.specs.declared.ids.ViewId.{ViewId}
use Rattle.rsct_packet.specs.declared.ids.ProviderId.{ProviderId}
use Rattle.rsct_packet.specs.Search.{Has}
use Rattle.rsct_packet.specs.Providers.{among}
use Rattle.rsct_packet.proofs.HasLaws.{append_has_left, append_has_right, has_reverse}
use Rattle.proposal_core.specs.declared.proposal.Cause.{Cause}
use Rattle.proposal_core.specs.declared.proposal.Cause.TheVariants.{Died, Gone, Cast}
use Rattle.proposal_core.specs.declared.proposal.Failure.{Failure}
use Rattle.proposal_core.specs.declared.entry.RowVote.{RowVote}
use Rattle.proposal_core.specs.declared.entry.Entry.{Entry}
use Rattle.proposal_core.specs.declared.group_state.GroupState.{GroupState}
use Rattle.proposal_core.specs.declared.group_state.Running.{Running}
use Rattle.proposal_core.specs.Fold.{joiners_fit, present}
use Rattle.vote_phases.specs.declared.voter.Voter.{Voter}
use Rattle.vote_phases.specs.Tally.{TallyView}
use Rattle.session_state.specs.declared.state.Provider.{Provider}
use Rattle.session_state.specs.declared.state.SessionState.{SessionState}
use Rattle.session_state.specs.State.{provider_of}
use Rattle.session_state.specs.HandOn.{is_dissolved}
use Rattle.node_state.specs.declared.group.Decision.{Decision}
use Rattle.node_state.specs.declared.group.Led.{Led}
use Rattle.node_state.specs.declared.happened.Happened.{Happened}
use Rattle.node_state.specs.declared.happened.Happened.TheVariants as happened
use Rattle.node_state.specs.declared.packet.Body.{Body}
use Rattle.node_state.specs.declared.packet.Body.TheVariants as body
use Rattle.node_state.specs.declared.state.Core.{Core}
use Rattle.run_safety.specs.Past.{History, records_of, inc_after, inc_now}
use Rattle.step_walk.proofs.Changes.{Fairly}
use Rattle.run_safety.specs.Stays.{Stay, stays, stays_after, is_join_of, asks_join, is_refused}
use Rattle.run_induction.proofs.Idle.{Elsewhere}
use Rattle.row_laws.specs.failed_rows.Failures.{state_of_stay, state_held, WasTold, TakenOff, StoodThere, RowFails, EachPut}
use Rattle.row_laws.proofs.failed_rows.Queues.{Stays}
use Rattle.row_laws.proofs.failed_rows.Living.{IsLive}

-- ---- what is said of one row

abbrev pub VoterFails : (ProviderId → Type 0) → GroupState → ProviderId → Option RowVote → Type 0
VoterFails gone st p None = Unit {0}
VoterFails gone st p (Some v) = RowFails gone st p v

-- the default votes of a tally are the state's, and who failed in it has a cause
pub record TallyRuns (gone : ProviderId → Type 0) (st : GroupState) (t : TallyView) : Type 0 where
  pub default : t.default_vote ≡ st.attrs.default_vote
  pub voters : (x : Voter) → Has x t.voters → VoterFails gone st x.provider x.vote

abbrev pub TallyWhile : (ProviderId → Type 0) → GroupState → TallyView → Option Running → Type 0
TallyWhile gone st t None = Unit {0}
TallyWhile gone st t (Some run) = TallyRuns gone st t

abbrev pub TallyFails : (ProviderId → Type 0) → GroupState → Option TallyView → Type 0
TallyFails gone st None = Unit {0}
TallyFails gone st (Some t) = TallyWhile gone st t st.running

-- there is no tally, or the node leads
abbrev pub TallyIs : (ProviderId → Type 0) → Bool → Option TallyView → GroupState → Type 0
TallyIs gone led t st = (t ≡ None) ⊎ ((led ≡ true) × TallyFails gone st t)

-- who waits as a failure: who died goes on to be on the failed list as long as it is a member
abbrev pub Waits : (ProviderId → Type 0) → GroupState → ProviderId → Cause → Type 0
Waits gone st p Died = Stays st p ≡ true
Waits gone st p Gone = gone p
Waits gone st p Cast = ⊥

abbrev pub AllWait : (ProviderId → Type 0) → GroupState → List Failure → Type 0
AllWait gone st fs = (f : Failure) → Has f fs → Waits gone st f.provider f.cause

abbrev pub QueueIs : (ProviderId → Type 0) → Bool → List Failure → GroupState → Type 0
QueueIs gone led fs st = (fs ≡ []) ⊎ ((led ≡ true) × AllWait gone st fs)

-- the latest stay is the list that the node has
pub record Track (xs : List Stay) (v : ViewId) (len : ℕ) (st : GroupState) : Type 0 where
  pub stay : Stay
  pub older : List Stay
  pub is : xs ≡ stay ∷ older
  pub view : stay.view ≡ v
  pub len_is : length stay.entries ≡ len
  pub state : state_of_stay stay ≡ st

-- ---- records

-- in a base no joiner is a member
abbrev pub BaseFits : Happened → Type 0
BaseFits (happened.Base n v g u len st) = joiners_fit st ≡ true
BaseFits _ = Unit {0}

abbrev pub BasesFit : List Happened → Type 0
BasesFit rs = (r : Happened) → Has r rs → BaseFits r

-- a record that is of no view and no list, and refuses nothing
abbrev pub Quiet : Happened → Type 0
Quiet (happened.Up n j) = ⊥
Quiet (happened.Down n) = ⊥
Quiet (happened.In n v ms) = ⊥
Quiet (happened.Base n v g u len st) = ⊥
Quiet (happened.Put n v g i e) = ⊥
Quiet (happened.Asked p r g x) = ⊥
Quiet (happened.Refused n c fault) = ⊥
Quiet _ = Unit {0}

pub quiet_stays : (n : ℕ) (g : List ℕ) (r : Happened) → Quiet r → (xs : List Stay) → stays_after n g r xs ≡ xs
quiet_stays n g (happened.Up m j) q xs = absurd q
quiet_stays n g (happened.Down m) q xs = absurd q
quiet_stays n g (happened.In m v ms) q xs = absurd q
quiet_stays n g (happened.Base m v h u len st) q xs = absurd q
quiet_stays n g (happened.Put m v h i e) q xs = absurd q
quiet_stays n g (happened.Refused m c fault) q xs = absurd q
quiet_stays n g _ q xs = refl

pub quiet_puts : (r : Happened) → Quiet r → (now : List Happened) (h : History) → EachPut now h → EachPut (r ∷ now) h
quiet_puts (happened.Up m j) q now h k = absurd q
quiet_puts (happened.Down m) q now h k = absurd q
quiet_puts (happened.In m v ms) q now h k = absurd q
quiet_puts (happened.Base m v g u len st) q now h k = absurd q
quiet_puts (happened.Put m v g i e) q now h k = absurd q
quiet_puts (happened.Refused m c fault) q now h k = absurd q
quiet_puts _ q now h k = (tt, k)

pub quiet_accepted : (r : Happened) → Quiet r → is_refused r ≡ false
quiet_accepted (happened.Up m j) q = absurd q
quiet_accepted (happened.Down m) q = absurd q
quiet_accepted (happened.In m v ms) q = absurd q
quiet_accepted (happened.Base m v g u len st) q = absurd q
quiet_accepted (happened.Put m v g i e) q = absurd q
quiet_accepted (happened.Refused m c fault) q = absurd q
quiet_accepted _ q = refl

-- a record of this node, where it is of a view or a list
abbrev pub Stepped : ℕ → Happened → Type 0
Stepped n (happened.Up m j) = ⊥
Stepped n (happened.Down m) = m ≡ n
Stepped n (happened.In m v ms) = m ≡ n
Stepped n (happened.Base m v g u len st) = m ≡ n
Stepped n (happened.Put m v g i e) = m ≡ n
Stepped n (happened.Asked p r g x) = p.node ≡ n
Stepped n _ = Unit {0}

pub stepped_elsewhere : (n m : ℕ) (r : Happened) → n ≢ m → Stepped n r → Elsewhere m r
stepped_elsewhere n m (happened.Up k j) ne o = absurd o
stepped_elsewhere n m (happened.Down k) ne o = λ e. ne (sym o ∙ e)
stepped_elsewhere n m (happened.In k v ms) ne o = λ e. ne (sym o ∙ e)
stepped_elsewhere n m (happened.Base k v g u len st) ne o = λ e. ne (sym o ∙ e)
stepped_elsewhere n m (happened.Put k v g i e) ne o = λ q. ne (sym o ∙ q)
stepped_elsewhere n m (happened.Asked p r g x) ne o = λ e. ne (sym o ∙ e)
stepped_elsewhere n m _ ne o = tt

-- so the incarnations stay
stepped_inc : (n m : ℕ) (r : Happened) → Stepped n r → (old : ℕ) → inc_after m r old ≡ old
stepped_inc n m (happened.Up o j) k old = absurd k
stepped_inc n m _ k old = refl

pub stepped_incs : (n m : ℕ) (rs xs : List Happened) → ((r : Happened) → Has r rs → Stepped n r) → inc_now m (rs ++ xs) ≡ inc_now m xs
stepped_incs n m [] xs all = refl
stepped_incs n m (r ∷ rs) xs all = stepped_inc n m r (all r (inl refl)) (inc_now m (rs ++ xs)) ∙ stepped_incs n m rs xs (λ q i. all q (inr i))

pub quiet_of : (n : ℕ) (r : Happened) → Quiet r → Stepped n r
quiet_of n (happened.Ring m j i ms b) q = tt
quiet_of n (happened.Heard p v g i e ms value) q = tt
quiet_of n (happened.Cast p proto phase vote value message) q = tt
quiet_of n (happened.Told p r why) q = tt
quiet_of n (happened.Noted m c v i told) q = tt
quiet_of n (happened.Shown m line) q = tt
quiet_of n _ q = absurd q

-- ---- what is sent

-- no refusal that a leader keeps says that a group was dissolved
abbrev pub Whys : Led → Type 0
Whys l = (d : Decision) → Has d l.decided → Fairly d.why

-- GONE has its cause: a goodbye of this event, or the node held the provider; and TELL does not say that a group was dissolved
abbrev pub BodyFails : (ProviderId → Type 0) → List Happened → Body → Type 0
BodyFails said rs (body.Gone v g p) = said p ⊎ StoodThere rs v g p
BodyFails said rs (body.Tell v g p r y) = is_dissolved y ≡ false
BodyFails said rs _ = Unit {0}

pub stood_on : (newer rs : List Happened) (v : ViewId) (g : List ℕ) (p : ProviderId) → StoodThere rs v g p → StoodThere (newer ++ rs) v g p
stood_on newer rs v g p k =
    record {
      newer = newer ++ k.newer;
      older = k.older;
      moment = ap (λ z. newer ++ z) k.moment ∙ sym (append_assoc newer k.newer k.older);
      stay = k.stay;
      rest = k.rest;
      stays_so = k.stays_so;
      view = k.view;
      holds = k.holds;
      over = k.over;
    }

pub body_on : (said : ProviderId → Type 0) (newer rs : List Happened) (b : Body) → BodyFails said rs b → BodyFails said (newer ++ rs) b
body_on said newer rs (body.Ring x) k = tt
body_on said newer rs (body.Report rows) k = tt
body_on said newer rs (body.View y) k = tt
body_on said newer rs (body.Lookup v g) k = tt
body_on said newer rs (body.Name v g n) k = tt
body_on said newer rs (body.Request v g q r phases x) k = tt
body_on said newer rs (body.Tell v g q r y) k = k
body_on said newer rs (body.Entry v g place stable e) k = tt
body_on said newer rs (body.Ack v g n) k = tt
body_on said newer rs (body.Vote v g proto phase p vote value message) k = tt
body_on said newer rs (body.Gone v g p) (inl a) = inl a
body_on said newer rs (body.Gone v g p) (inr a) = inr (stood_on newer rs v g p a)
body_on said newer rs (body.Query question what) k = tt
body_on said newer rs (body.Reply question text) k = tt

-- ---- who is over

-- nothing is asked for
abbrev pub Unasked : Happened → Type 0
Unasked (happened.Asked p r g x) = ⊥
Unasked _ = Unit {0}

pub unasked_join : (r : Happened) → Unasked r → (p : ProviderId) → asks_join p r ≡ false
unasked_join (happened.Asked o r g x) k p = absurd k
unasked_join _ k p = refl

pub quiet_asks : (r : Happened) → Quiet r → Unasked r
quiet_asks (happened.Ring m j i ms b) q = tt
quiet_asks (happened.Heard o v g i e ms value) q = tt
quiet_asks (happened.Cast o proto phase vote value message) q = tt
quiet_asks (happened.Told o r why) q = tt
quiet_asks (happened.Noted m c v i told) q = tt
quiet_asks (happened.Shown m line) q = tt
quiet_asks _ q = absurd q

pub quiet_unasked : (r : Happened) → Quiet r → (p : ProviderId) → asks_join p r ≡ false
quiet_unasked (happened.Ring m j i ms b) q p = refl
quiet_unasked (happened.Heard o v g i e ms value) q p = refl
quiet_unasked (happened.Cast o proto phase vote value message) q p = refl
quiet_unasked (happened.Told o r why) q p = refl
quiet_unasked (happened.Noted m c v i told) q p = refl
quiet_unasked (happened.Shown m line) q p = refl
quiet_unasked _ q p = absurd q

pub told_on : (newer rs : List Happened) (p : ProviderId) → WasTold rs p → WasTold (newer ++ rs) p
told_on newer rs p k =
    record {
      number = k.number;
      why = k.why;
      newer = newer ++ k.newer;
      older = k.older;
      moment = ap (λ z. newer ++ z) k.moment ∙ sym (append_assoc newer k.newer (happened.Told p k.number k.why ∷ k.older));
      ends = k.ends;
    }

pub off_on : (newer rs : List Happened) (p : ProviderId) → TakenOff rs p → TakenOff (newer ++ rs) p
off_on newer rs p k =
    record {
      group = k.group;
      view = k.view;
      place = k.place;
      entry = k.entry;
      members = k.members;
      value = k.value;
      newer = newer ++ k.newer;
      between = k.between;
      older = k.older;
      moment = ap (λ z. newer ++ z) k.moment ∙ sym (append_assoc newer k.newer (happened.Heard p k.view k.group k.place k.entry k.members k.value ∷ (k.between ++ happened.Put p.node k.view k.group k.place k.entry ∷ k.older)));
      still = k.still;
      was = k.was;
      off = k.off;
    }

-- records of no view and no list leave the stays as they are
pub quiet_all : (n : ℕ) (g : List ℕ) (xs rs : List Happened) → ((r : Happened) → Has r xs → Quiet r) → stays n g (xs ++ rs) ≡ stays n g rs
quiet_all n g [] rs quiet = refl
quiet_all n g (x ∷ xs) rs quiet = quiet_stays n g x (quiet x (inl refl)) (stays n g (xs ++ rs)) ∙ quiet_all n g xs rs (λ r i. quiet r (inr i))

-- the entry was put last, and by it the provider is not there any more
pub record PutOff (rs : List Happened) (p : ProviderId) (v : ViewId) (g : List ℕ) (i : ℕ) (e : Entry) : Type 0 where
  pub older : List Happened
  pub moment : rs ≡ happened.Put p.node v g i e ∷ older
  pub was : (among (present (state_held p.node g older)) p ≡ true) ⊎ (is_join_of p e ≡ true)
  pub off : among (present (state_held p.node g (happened.Put p.node v g i e ∷ older))) p ≡ false

-- something stands at a place of a list
pub record Split {A : Type 0} (x : A) (xs : List A) : Type 0 where
  pub before : List A
  pub after : List A
  pub is : xs ≡ before ++ x ∷ after

pub split : {A : Type 0} (x : A) (xs : List A) → Has x xs → Split x xs
split x [] i = absurd i
split x (y ∷ ys) (inl e) = record { before = []; after = ys; is = ap (λ z. z ∷ ys) (sym e) }
split x (y ∷ ys) (inr i) = let k = split x ys i in record { before = y ∷ k.before; after = k.after; is = ap (λ z. y ∷ z) k.is }

pub turned_split : (r : Happened) (xs ys zs : List Happened) → reverse (xs ++ r ∷ ys) ++ zs ≡ reverse ys ++ r ∷ (reverse xs ++ zs)
turned_split r xs ys zs =
    ap (λ z. z ++ zs) (reverse-append xs (r ∷ ys)) ∙ ap (λ z. (z ++ reverse xs) ++ zs) (reverse-append (r ∷ []) ys) ∙ append_assoc (reverse ys ++ r ∷ []) (reverse xs) zs ∙ append_assoc (reverse ys) (r ∷ []) (reverse xs ++ zs)

-- who heard it as it was handed on was taken off by it
pub off_heard : (before : List Happened) (rs new : List Happened) (p : ProviderId) (v : ViewId) (g : List ℕ) (i : ℕ) (e : Entry) (ms : List ProviderId) (value : List ℕ) → ((r : Happened) → Has r new → Quiet r) → Has (happened.Heard p v g i e ms value) new → PutOff (reverse rs ++ before) p v g i e → TakenOff (reverse (rs ++ new) ++ before) p
off_heard before rs new p v g i e ms value quiet heard k =
    record {
      group = g;
      view = v;
      place = i;
      entry = e;
      members = ms;
      value = value;
      newer = reverse at.after;
      between = reverse at.before;
      older = k.older;
      moment = ap (λ z. z ++ before) (reverse-append rs new) ∙ append_assoc (reverse new) (reverse rs) before ∙ ap (λ z. reverse z ++ (reverse rs ++ before)) at.is ∙ turned_split it at.before at.after (reverse rs ++ before) ∙ ap (λ z. reverse at.after ++ it ∷ (reverse at.before ++ z)) k.moment;
      still = quiet_all p.node g (reverse at.before) (happened.Put p.node v g i e ∷ k.older) (λ r h. quiet r (subst (Has r) (sym at.is) (append_has_left r at.before (it ∷ at.after) (has_reverse r at.before h))));
      was = k.was;
      off = k.off;
    }
  where
    it : Happened
    it = happened.Heard p v g i e ms value

    at : Split it new
    at = split it new heard

-- its node put its join in the group
abbrev pub JoinedIn : ℕ → ProviderId → List ℕ → List Happened → Type 0
JoinedIn n p g rs = (v : ViewId) × (i : ℕ) × (e : Entry) × Has (happened.Put n v g i e) rs × (is_join_of p e ≡ true)

-- so it is with whoever takes part
abbrev pub Takers : ℕ → SessionState → List Happened → Type 0
Takers n t rs = (p : ProviderId) (y : Provider) → provider_of t p ≡ Some y → y.takes_part ≡ true → JoinedIn n p y.group rs

pub takers_more : (n : ℕ) (t : SessionState) (newer rs : List Happened) → Takers n t rs → Takers n t (newer ++ rs)
takers_more n t newer rs k p y q part =
    let z = k p y q part in (z.0, z.1, z.2, append_has_right (happened.Put n z.0 y.group z.1 z.2) newer rs z.3, z.4)

pub takers_pushed : (h : History) (n : ℕ) (t : SessionState) (rs new : List Happened) → Takers n t (reverse rs ++ records_of h) → Takers n t (reverse (rs ++ new) ++ records_of h)
takers_pushed h n t rs new k =
    subst (Takers n t) (sym (ap (λ z. z ++ records_of h) (reverse-append rs new) ∙ append_assoc (reverse new) (reverse rs) (records_of h))) (takers_more n t (reverse new) (reverse rs ++ records_of h) k)

-- the node has the provider, or it is recorded why not
abbrev pub Lives : (ProviderId → Type 0) → SessionState → List Happened → ProviderId → Type 0
Lives said t rs p = IsLive t p ⊎ (said p ⊎ (WasTold rs p ⊎ TakenOff rs p))

pub lives_on : (said : ProviderId → Type 0) (t : SessionState) (newer rs : List Happened) (p : ProviderId) → Lives said t rs p → Lives said t (newer ++ rs) p
lives_on said t newer rs p (inl k) = inl k
lives_on said t newer rs p (inr (inl k)) = inr (inl k)
lives_on said t newer rs p (inr (inr (inl k))) = inr (inr (inl (told_on newer rs p k)))
lives_on said t newer rs p (inr (inr (inr k))) = inr (inr (inr (off_on newer rs p k)))

-- of each provider of the node in this incarnation whose join was asked for
abbrev pub OwnFor : History → (ProviderId → Type 0) → ℕ → SessionState → Core → Type 0
OwnFor h said born t s =
    (p : ProviderId) → p.node ≡ s.views.me → p.inc ≡ born → list_any (asks_join p) (reverse s.records ++ records_of h) ≡ true → Lives said t (reverse s.records ++ records_of h) p

pub none_asked : (p : ProviderId) (rs xs : List Happened) → ((r : Happened) → Has r rs → asks_join p r ≡ false) → list_any (asks_join p) (rs ++ xs) ≡ list_any (asks_join p) xs
none_asked p [] xs all = refl
none_asked p (r ∷ rs) xs all = ap (λ b. b || list_any (asks_join p) (rs ++ xs)) (all r (inl refl)) ∙ none_asked p rs xs (λ q i. all q (inr i))

-- more is recorded, and nobody asks
pub own_pushed : (h : History) (said : ProviderId → Type 0) (born : ℕ) (t : SessionState) (s : Core) (rs : List Happened) → ((r : Happened) → Has r rs → (p : ProviderId) → asks_join p r ≡ false) → OwnFor h said born t s → OwnFor h said born t (record s { records = s.records ++ rs })
own_pushed h said born t s rs none k p node inc asked =
    subst (λ z. Lives said t z p) (sym turned) (lives_on said t (reverse rs) (reverse s.records ++ records_of h) p (k p node inc (sym (none_asked p (reverse rs) (reverse s.records ++ records_of h) (λ r i. none r (has_reverse r rs i) p)) ∙ ap (list_any (asks_join p)) (sym turned) ∙ asked)))
  where
    turned : reverse (s.records ++ rs) ++ records_of h ≡ reverse rs ++ (reverse s.records ++ records_of h)
    turned = ap (λ z. z ++ records_of h) (reverse-append s.records rs) ∙ append_assoc (reverse rs) (reverse s.records) (records_of h)
