-- What is kept of requests: where each was asked, where it was told, and where it began.
use Rattle.std.specs.Prelude.{ℕ, ◌≡◌, Bool, ◌==◌, ◌&&◌, List, Option, Some, None, cond, is_some}
use Rattle.std.specs.List.{list_any}
use Rattle.std.specs.Map.{lookup}
use Rattle.std.specs.Str.{bytes_eq}
use Rattle.rsct_packet.specs.declared.ids.ProviderId.{ProviderId}
use Rattle.word_laws.specs.declared.kind.Kind.{Kind}
use Rattle.word_laws.specs.declared.kind.Kind.TheVariants as kinds
use Rattle.record_lines.specs.declared.line.Line.{Line}
use Rattle.run_audit.specs.declared.keys.RequestKey.{RequestKey}
use Rattle.run_audit.specs.declared.asked.AskedKey.{AskedKey}
use Rattle.run_audit.specs.declared.requests.Requests.{Requests}
use Rattle.run_audit.specs.declared.broken.Fault.{Fault}
use Rattle.run_audit.specs.declared.broken.Rule.TheVariants as rule
use Rattle.run_audit.specs.Keys.{provider_of, request_key, same_request_key}
use Rattle.run_audit.specs.Kept.{or_new}
use Rattle.run_audit.specs.Past.{first_no}
use Rattle.run_audit.specs.Table.{is_asked_of, is_told_of, carries, or_no}

-- a number for each kind
unfoldable pub kind_number : Kind → ℕ
kind_number kinds.Join = 0
kind_number kinds.Leave = 1
kind_number kinds.Fail = 2
kind_number kinds.Expel = 3
kind_number kinds.State = 4
kind_number kinds.Message = 5
kind_number kinds.Attributes = 6
kind_number kinds.Reflect = 7

-- a request that is asked in a group, of a kind
pub record AskedAt : Type 0 where
  pub provider : ProviderId
  pub request : ℕ
  pub group : List ℕ
  pub of_kind : Kind

abbrev pub is_asked_key : AskedAt → AskedKey → Bool
is_asked_key a key = same_request_key (request_key a.provider a.request) key.request && (bytes_eq a.group key.group.items && (kind_number a.of_kind == key.kind))

abbrev pub same_asked_key : AskedKey → AskedKey → Bool
same_asked_key a b = same_request_key a.request b.request && (bytes_eq a.group.items b.group.items && (a.kind == b.kind))

-- the entries are what was asked
abbrev pub AreAsked : List Line → List (AskedKey × ℕ) → Type 0
AreAsked ls es = (a : AskedAt) → is_some (lookup (is_asked_key a) es) ≡ list_any (is_asked_of a.provider a.request a.group a.of_kind) ls

-- the entries are the first told lines
abbrev pub AreTold : List Line → List (RequestKey × ℕ) → Type 0
AreTold ls es = (q : RequestKey) → lookup (same_request_key q) es ≡ first_no (is_told_of (provider_of q.provider) q.request) ls

-- the entries are the first puts, of a request's own node, that carry it
abbrev pub AreBegun : List Line → List (RequestKey × ℕ) → Type 0
AreBegun ls es = (q : RequestKey) → lookup (same_request_key q) es ≡ first_no (carries q.provider.node (provider_of q.provider) q.request) ls

pub record AreRequests (ls : List Line) (r : Requests) : Type 0 where
  pub asked : AreAsked ls r.asked
  pub told : AreTold ls r.told
  pub begun : AreBegun ls r.begun

-- the number under the key, after a line with it
abbrev pub or_number : Bool → ℕ → Option ℕ → Option ℕ
or_number t n old = or_new old (cond t (Some n) None)

-- a request of the node's own provider under this key
unfoldable pub begins : ℕ → RequestKey → ProviderId × ℕ → Bool
begins n q x = (x.0).node == n && same_request_key (request_key x.0 x.1) q

-- the fault of a request that may not begin
unfoldable pub fault_by : Requests → Option (ProviderId × ℕ) → Option Fault
fault_by rs None = None
fault_by rs (Some x) = Some (record { rule = rule.Once; with_line = or_no (lookup (same_request_key (request_key x.0 x.1)) rs.told) (lookup (same_request_key (request_key x.0 x.1)) rs.begun) })
