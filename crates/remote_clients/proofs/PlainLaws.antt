-- Which clients are made: none of an object.
use Rattle.std.proofs.Common.{◌≡◌, ℕ, true, false, List, Option, Some, None, ap}
use Rattle.std.specs.Prelude.{◌==◌, codes, find}
use Rattle.std.specs.Str.{bytes_eq}
use Rattle.std.proofs.lemmas.Bool.{and_parts}
use Rattle.std.proofs.lemmas.Slice.Eq.{bytes_eq-Decides}
use Rattle.node_state.specs.declared.call.CallLine.{CallLine}
use Rattle.node_state.specs.declared.call.CallLine.TheVariants as call
use Rattle.world_model.specs.Reading.{boxed_word}
use Rattle.remote_clients.specs.declared.clients.RemoteClient.{RemoteClient}
use Rattle.remote_clients.specs.Clients.{ClientsState, is_of_key, admits_first, admits_later, admits_as, admits, IsPlain}

plain_votes : (votes : List ℕ) → bytes_eq votes (codes "-") ≡ true → bytes_eq votes boxed_word ≡ false
plain_votes votes e = ap (λ (v : List ℕ). bytes_eq v boxed_word) ((bytes_eq-Decides votes (codes "-")).0 e)

first_plain : (me : ℕ) (a : CallLine) → admits_first me a ≡ true → IsPlain a
first_plain me (call.Init node name votes) e = plain_votes votes (and_parts (node == me) (bytes_eq votes (codes "-")) e).1
first_plain me _ e = tt

later_plain : (gone : List ℕ) (key : ℕ) (client : RemoteClient) (a : CallLine) → admits_later gone key client a ≡ true → IsPlain a
later_plain gone key client (call.Init node name votes) e = absurd cc
later_plain gone key client _ e = tt

pub admitted_plain : (c : ClientsState) (me key : ℕ) (a : CallLine) → admits c me key a ≡ true → IsPlain a
unfolding admits
admitted_plain c me key a e = by (find (is_of_key key) c.made) e
  where
    by : (o : Option RemoteClient) → admits_as c me key a o ≡ true → IsPlain a
    by None h = first_plain me a h
    by (Some client) h = later_plain c.gone key client a h
