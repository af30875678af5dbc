-- The clients that keys made, the providers whose joins they asked for, and whose a record is.
use Rattle.std.specs.Prelude.{◌≡◌, ℕ, Bool, false, not, ◌==◌, ◌&&◌, List, [], ◌∷◌, ◌++◌, codes, filter, find, Option, Some, None, option_map, if◌then◌else◌}
use Rattle.std.specs.List.{list_any}
use Rattle.std.specs.Str.{bytes_eq}
use Rattle.rsct_packet.specs.declared.ids.ProviderId.{ProviderId}
use Rattle.rsct_packet.specs.Providers.{same_provider}
use Rattle.proposal_core.specs.declared.proposal.Proposal.{Proposal}
use Rattle.proposal_core.specs.declared.proposal.Proposal.TheVariants as proposal
use Rattle.node_state.specs.declared.call.CallLine.{CallLine}
use Rattle.node_state.specs.declared.call.CallLine.TheVariants as call
use Rattle.node_state.specs.declared.happened.Happened.{Happened}
use Rattle.node_state.specs.declared.happened.Happened.TheVariants as happened
use Rattle.node_state.specs.Calls.{caller_of}
use Rattle.world_model.specs.Reading.{boxed_word}
use Rattle.remote_clients.specs.declared.clients.RemoteClient.{RemoteClient}
use Rattle.remote_clients.specs.declared.clients.Owner.{Owner}

-- The clients that were made, at most one of a key; the keys whose clients have said goodbye; and the providers whose
-- joins were asked for.
pub record ClientsState : Type 0 where
  pub made : List RemoteClient
  pub gone : List ℕ
  pub owners : List Owner

abbrev pub no_clients : ClientsState
no_clients = record { made = []; gone = []; owners = [] }

-- ---- whose it is

abbrev pub is_of_key : ℕ → RemoteClient → Bool
is_of_key key c = c.key == key

abbrev pub is_gone : List ℕ → ℕ → Bool
is_gone gone key = list_any (λ k. k == key) gone

-- it has this name, and has not said goodbye
abbrev pub is_live : List ℕ → List ℕ → RemoteClient → Bool
is_live gone name c = bytes_eq c.name name && not (is_gone gone c.key)

abbrev pub is_owner_of : ProviderId → Owner → Bool
is_owner_of p o = same_provider o.provider p

unfoldable pub key_of_name : List RemoteClient → List ℕ → List ℕ → Option ℕ
key_of_name made gone name = option_map (λ (c : RemoteClient). c.key) (find (is_live gone name) made)

unfoldable pub key_of_provider : List Owner → ProviderId → Option ℕ
key_of_provider owners p = option_map (λ (o : Owner). o.key) (find (is_owner_of p) owners)

-- The key whose client is to hear a record, where the step that made it was a call of the key `calling`, or of none: what
-- a call of the key refuses, what is noted to its client, and what its providers hear, cast, ask for and are told.
unfoldable pub hearer_of : ClientsState → Option ℕ → Happened → Option ℕ
hearer_of c calling (happened.Refused node client fault) = calling
hearer_of c calling (happened.Noted node client view place told) = key_of_name c.made c.gone client
hearer_of c calling (happened.Heard p view group place entry members value) = key_of_provider c.owners p
hearer_of c calling (happened.Cast p proto phase vote value message) = key_of_provider c.owners p
hearer_of c calling (happened.Asked p r group what) = key_of_provider c.owners p
hearer_of c calling (happened.Told p r why) = key_of_provider c.owners p
hearer_of c calling _ = None

-- ---- what makes it so

abbrev pub join_in : ProviderId → Proposal → Option ProviderId
join_in p (proposal.Join ps attrs source_len) = Some p
join_in p _ = None

-- the provider whose join this record takes
abbrev pub join_of : Happened → Option ProviderId
join_of (happened.Asked p r group what) = join_in p what
join_of _ = None

abbrev pub owned_by : ClientsState → Option ProviderId → ℕ → ClientsState
owned_by c None key = c
owned_by c (Some p) key = record c { owners = c.owners ++ record { provider = p; key = key } ∷ [] }

-- a record comes, of a step that was a call of this key, or of none
unfoldable pub with_record : Option ℕ → Happened → ClientsState → ClientsState
with_record None r c = c
with_record (Some key) r c = owned_by c (join_of r) key

-- a call of the key is taken: its client is made, or has said goodbye
unfoldable pub with_call : ℕ → CallLine → ClientsState → ClientsState
with_call key (call.Init node name votes) c = record c { made = c.made ++ record { key = key; name = name } ∷ [] }
with_call key (call.Goodbye client) c = record c { gone = c.gone ++ key ∷ [] }
with_call key _ c = c

-- ---- a key that ends

-- the goodbye that the key owes: that of the client that it made, where that has said none
abbrev pub goodbye_if : List ℕ → ℕ → Option RemoteClient → Option CallLine
goodbye_if gone key None = None
goodbye_if gone key (Some client) = if is_gone gone key then None else Some (call.Goodbye client.name)

unfoldable pub goodbye_owed : ClientsState → ℕ → Option CallLine
goodbye_owed c key = goodbye_if c.gone key (find (is_of_key key) c.made)

abbrev pub is_owned_by : ℕ → Owner → Bool
is_owned_by key o = o.key == key

-- nothing of the key is left
unfoldable pub with_end : ℕ → ClientsState → ClientsState
with_end key c =
    record {
      made = filter (λ (r : RemoteClient). not (is_of_key key r)) c.made;
      gone = filter (λ k. not (k == key)) c.gone;
      owners = filter (λ (o : Owner). not (is_owned_by key o)) c.owners;
    }

-- ---- which calls are the node's

-- the first call of a key makes its client, at this node, whose votes are calls alone
abbrev pub admits_first : ℕ → CallLine → Bool
admits_first me (call.Init node name votes) = (node == me) && bytes_eq votes (codes "-")
admits_first me _ = false

-- every other one is of that client, while it has not said goodbye
abbrev pub admits_later : List ℕ → ℕ → RemoteClient → CallLine → Bool
admits_later gone key client (call.Init node name votes) = false
admits_later gone key client c = bytes_eq client.name (caller_of c) && not (is_gone gone key)

abbrev pub admits_as : ClientsState → ℕ → ℕ → CallLine → Option RemoteClient → Bool
admits_as c me key a None = admits_first me a
admits_as c me key a (Some client) = admits_later c.gone key client a

unfoldable pub admits : ClientsState → ℕ → ℕ → CallLine → Bool
admits c me key a = admits_as c me key a (find (is_of_key key) c.made)

-- a call whose client, if it makes one, is none of an object
abbrev pub IsPlain : CallLine → Type 0
IsPlain (call.Init node name votes) = bytes_eq votes boxed_word ≡ false
IsPlain _ = Unit {0}

-- opens each word of this file, for a computation
unfoldable pub clients_opens : Unit {0}
unfolding key_of_name key_of_provider hearer_of with_record with_call goodbye_owed with_end admits
clients_opens = tt
