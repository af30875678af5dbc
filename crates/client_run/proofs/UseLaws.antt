-- How the key is read, and what comes of it.
use Rattle.std.proofs.Common.{◌≡◌, ℕ, Bool, List, [], ◌∷◌, ◌++◌, Option, Some, None, sym, subst, arith}
use Rattle.hags_io.specs.Deeds.{Deed, Read, Opened}
use Rattle.hags_io.specs.Edges.{Rose}
use Rattle.hags_io.specs.Telling.{Telling, Did}
use Rattle.hags_io.specs.Fronts.{EndsByWrite, EndsByReceive}
use Rattle.hags_io.proofs.DeedLaws.{did_none, did_on}
use Rattle.hags_io.proofs.FrontLaws.{rose_by_write, rose_by_receive}
use Rattle.node_state.specs.declared.config.Config.{Config}
use Rattle.remote_session.specs.declared.far.DownSeen.{DownSeen}
use Rattle.daemon_model.specs.Settings.{placings, openings}
use Rattle.link_use.proofs.OpenLaws.{rose_after}
use Rattle.client_run.specs.declared.client.Client.{Client}
use Rattle.client_run.specs.declared.serving.Usage.{Usage}
use Rattle.client_run.specs.Running.{Answered, Unanswered, Ended, Failing, Front}
use Rattle.client_run.specs.Using.{key_at, ByClock, HasKey, first_client, Keyed}
use Rattle.client_run.proofs.RunLaws.{done_none, front_all}

pub by_clock : (t u : Telling) (moment key : ℕ) → Did t u (Read moment ∷ []) → key ≡ key_at moment → ByClock t u key
by_clock t u moment key read is = record { moment = moment; read = read; is = is }

module _ (config : Config) (usage : Usage) (lines : List (List ℕ)) where
  -- what holds of the client holds of the one with this key
  keyed : (P : Client → Telling → Type 0) (key : ℕ) (c : Client) (t u : Telling) → HasKey usage.key t u key → c ≡ first_client config usage.node key → P c u → Keyed config usage t P
  keyed P key c t u has first h = record { key = key; start = u; has = has; then = subst (λ (x : Client). P x u) first h }

  pub keyed_answered : (turns key : ℕ) (c : Client) (t u v : Telling) → HasKey usage.key t u key → c ≡ first_client config usage.node key → Answered lines c turns u v → Keyed config usage t (λ e start. Answered lines e turns start v)
  keyed_answered turns key c t u v has first h = keyed (λ e start. Answered lines e turns start v) key c t u has first h

  pub keyed_unanswered : (turns key : ℕ) (c : Client) (t u v : Telling) → HasKey usage.key t u key → c ≡ first_client config usage.node key → Unanswered lines c turns u v → Keyed config usage t (λ e start. Unanswered lines e turns start v)
  keyed_unanswered turns key c t u v has first h = keyed (λ e start. Unanswered lines e turns start v) key c t u has first h

  pub keyed_ended : (P : DownSeen → Type 0) (turns key : ℕ) (c : Client) (t u v : Telling) → HasKey usage.key t u key → c ≡ first_client config usage.node key → Ended P lines c turns u v → Keyed config usage t (λ e start. Ended P lines e turns start v)
  keyed_ended P turns key c t u v has first h = keyed (λ e start. Ended P lines e turns start v) key c t u has first h

  pub keyed_failing : (turns key : ℕ) (c : Client) (t u v : Telling) → HasKey usage.key t u key → c ≡ first_client config usage.node key → Failing lines c turns u v → Keyed config usage t (λ e start. Failing lines e turns start v)
  keyed_failing turns key c t u v has first h = keyed (λ e start. Failing lines e turns start v) key c t u has first h

  pub keyed_front : (turns key : ℕ) (c : Client) (t u v : Telling) → HasKey usage.key t u key → c ≡ first_client config usage.node key → Front lines c turns u v → Keyed config usage t (λ e start. Front lines e turns start v)
  keyed_front turns key c t u v has first h = keyed (λ e start. Front lines e turns start v) key c t u has first h

  -- there was no memory to begin
  pub keyed_none : (turns key : ℕ) (t u : Telling) → HasKey usage.key t u key → Keyed config usage t (λ e start. Front lines e turns start u)
  keyed_none turns key t u has = record {
    key = key;
    start = u;
    has = has;
    then =
        let first : Client = first_client config usage.node key in
        front_all lines first first 0 turns u u (omega arith) (done_none lines first u);
  }

-- ---- the counts of failures rose

-- what was done for the key: nothing, or the clock was read
deeds_of : (named : Option ℕ) (t u : Telling) (key : ℕ) → HasKey named t u key → (ds : List Deed) × Did t u ds
deeds_of (Some named) t u key h = ([], subst (λ (x : Telling). Did t x []) (sym h.1) (did_none t))
deeds_of None t u key h = (Read h.moment ∷ [], h.read)

-- all that a client did
used : (c : Config) (u : Usage) (turns : ℕ) (lines : List (List ℕ)) (t v : Telling) → Keyed c u t (λ client start. Front lines client turns start v) → (ds : List Deed) × Did t v ds
used c u turns lines t v k =
    let first : (ds : List Deed) × Did t k.start ds = deeds_of u.key t k.start k.key k.has in
    (first.0 ++ k.then.front.deeds, did_on t k.start v first.0 k.then.front.deeds first.1 k.then.front.told)

pub rose_writing : (c : Config) (port : ℕ) (done : Bool) (usage : Usage) (turns : ℕ) (lines : List (List ℕ)) (t u v : Telling) → Did t u (openings c port done) → Keyed c usage u (λ client start. Front lines client turns start v) → EndsByWrite v
    → Rose t.write_faults v.write_faults
rose_writing c port done usage turns lines t u v h k e =
    let all : (ds : List Deed) × Did u v ds = used c usage turns lines u v k in
    rose_after (placings c) (Opened port done) all.0 t u v h all.1 (λ d ds x. rose_by_write t v d ds x e)

pub rose_receiving : (c : Config) (port : ℕ) (done : Bool) (usage : Usage) (turns : ℕ) (lines : List (List ℕ)) (t u v : Telling) → Did t u (openings c port done) → Keyed c usage u (λ client start. Front lines client turns start v) → EndsByReceive v
    → Rose t.link_faults v.link_faults
rose_receiving c port done usage turns lines t u v h k e =
    let all : (ds : List Deed) × Did u v ds = used c usage turns lines u v k in
    rose_after (placings c) (Opened port done) all.0 t u v h all.1 (λ d ds x. rose_by_receive t v d ds x e)
