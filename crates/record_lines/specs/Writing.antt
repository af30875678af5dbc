-- How a line is written: its words, with a space between each two.
use Rattle.std.specs.Prelude.{ℕ, Bool, true, false, ◌++◌, List, [], ◌∷◌, Option, Some, None, codes, decimal}
use Rattle.proposal_core.specs.declared.entry.Vote.{Vote}
use Rattle.value_words.specs.Wording.{view_text, provider_text, ring_text, proto_text, nodes_text, members_text, providers_text, escaped, value_text}
use Rattle.value_words.specs.Words.{split_on}
use Rattle.entry_words.specs.Wording.{vote_text, entry_text, why_text, fault_text}
use Rattle.word_laws.specs.declared.kind.Kind.{Kind}
use Rattle.word_laws.specs.declared.kind.Kind.TheVariants as kind
use Rattle.word_laws.specs.Values.{spaced}
use Rattle.record_lines.specs.declared.line.BaseLine.{BaseLine}
use Rattle.record_lines.specs.declared.line.Line.{Line}
use Rattle.record_lines.specs.declared.line.Line.TheVariants as line
use Rattle.record_lines.specs.declared.line.Note.{Note}
use Rattle.record_lines.specs.declared.line.Note.TheVariants as note
use Rattle.record_lines.specs.declared.line.OpenPhase.{OpenPhase}
use Rattle.record_lines.specs.declared.line.Status.{Status}
use Rattle.record_lines.specs.declared.line.Status.TheVariants as status
use Rattle.record_lines.specs.declared.line.What.{What}
use Rattle.record_lines.specs.declared.line.What.TheVariants as what

unfoldable pub kind_name : Kind → List ℕ
kind_name kind.Join = codes "join"
kind_name kind.Leave = codes "leave"
kind_name kind.Fail = codes "fail"
kind_name kind.Expel = codes "expel"
kind_name kind.State = codes "state"
kind_name kind.Message = codes "message"
kind_name kind.Attributes = codes "attrs"
kind_name kind.Reflect = codes "reflect"

unfoldable pub what_name : What → List ℕ
what_name (what.Once k) = codes "once-" ++ kind_name k
what_name (what.Begin k) = codes "begin-" ++ kind_name k
what_name what.Phase = codes "phase"
what_name what.Approve = codes "approve"
what_name what.Reject = codes "reject"
what_name what.Late = codes "late"

unfoldable pub open_text : Option OpenPhase → List ℕ
open_text None = codes "-"
open_text (Some o) = proto_text o.proto ++ 58 ∷ decimal o.phase

unfoldable pub ballot_text : Vote → Option (List ℕ) → List ℕ
ballot_text v None = vote_text v
ballot_text v (Some bytes) = vote_text v ++ value_text bytes

-- a base from its old view on
unfoldable pub base_words : BaseLine → List (List ℕ)
base_words b = view_text b.old ∷ decimal b.len ∷ providers_text b.members ∷ value_text b.value ∷ providers_text b.failed ∷ open_text b.running ∷ []

-- a node and a client of it
unfoldable pub client_text : ℕ → List ℕ → List ℕ
client_text node client = decimal node ++ 46 ∷ client

unfoldable pub place_text : Option ℕ → List ℕ
place_text None = codes "-"
place_text (Some i) = decimal i

unfoldable pub note_words : Option ℕ → Note → List (List ℕ)
note_words place (note.Group group members value) = group ∷ place_text place ∷ providers_text members ∷ value_text value ∷ []
note_words place (note.Hosts members) = codes "HostMembership" ∷ place_text place ∷ members_text members ∷ codes "=" ∷ []

-- what the node may not know
unfoldable pub known_text : {X : Type 0} → (X → List ℕ) → Option X → List ℕ
known_text f None = codes "?"
known_text f (Some x) = f x

unfoldable pub yes_or_no : Bool → List ℕ
yes_or_no true = codes "yes"
yes_or_no false = codes "no"

unfoldable pub status_words : Status → List (List ℕ)
status_words (status.Ring network ring members neighbour) =
    codes "hats" ∷ decimal network ∷ ring_text ring ∷ (codes "members=" ++ nodes_text members) ∷ (codes "neighbour=" ++ decimal neighbour) ∷ []
status_words (status.View view members frozen) =
    codes "hagsns" ∷ view_text view ∷ (codes "coord=" ++ decimal view.coord) ∷ (codes "members=" ++ members_text members) ∷ (codes "frozen=" ++ yes_or_no frozen) ∷ []
status_words (status.Group group leader len members value) =
    codes "hagsgr"
    ∷ group
    ∷ (codes "leader=" ++ known_text decimal leader)
    ∷ (codes "len=" ++ decimal len)
    ∷ (codes "members=" ++ providers_text members)
    ∷ (codes "value=" ++ escaped value)
    ∷ []
status_words (status.Vote group proto phase k waiting) =
    codes "hagsvote"
    ∷ group
    ∷ proto_text proto
    ∷ (codes "phase=" ++ decimal phase)
    ∷ (codes "kind=" ++ kind_name k)
    ∷ (codes "waiting=" ++ known_text providers_text waiting)
    ∷ []

unfoldable pub words_of : Line → List (List ℕ)
words_of (line.Up node inc) = codes "up" ∷ decimal node ∷ decimal inc ∷ []
words_of (line.Down node) = codes "down" ∷ decimal node ∷ []
words_of (line.Ring node network ring members neighbour) =
    codes "ring" ∷ decimal node ∷ decimal network ∷ ring_text ring ∷ nodes_text members ∷ decimal neighbour ∷ []
words_of (line.In node view members) = codes "in" ∷ decimal node ∷ view_text view ∷ members_text members ∷ []
words_of (line.Base node view group base) = codes "base" ∷ decimal node ∷ view_text view ∷ group ∷ base_words base
words_of (line.Put node view group place e) = codes "put" ∷ decimal node ∷ view_text view ∷ group ∷ decimal place ∷ split_on 32 (entry_text e)
words_of (line.Heard provider view group place w members value) =
    codes "heard" ∷ provider_text provider ∷ view_text view ∷ group ∷ decimal place ∷ what_name w ∷ providers_text members ∷ value_text value ∷ []
words_of (line.Cast provider proto phase v value) = codes "cast" ∷ provider_text provider ∷ proto_text proto ∷ decimal phase ∷ ballot_text v value ∷ []
words_of (line.Asked provider request group k) = codes "asked" ∷ provider_text provider ∷ decimal request ∷ group ∷ kind_name k ∷ []
words_of (line.Told provider request why) = codes "told" ∷ provider_text provider ∷ decimal request ∷ split_on 32 (why_text why)
words_of (line.Noted node client view place n) = codes "noted" ∷ client_text node client ∷ view_text view ∷ note_words place n
words_of (line.Refused node client fault) = codes "refused" ∷ client_text node client ∷ split_on 32 (fault_text fault)
words_of (line.Show node s) = codes "show" ∷ decimal node ∷ status_words s

-- without its line feed
unfoldable pub line_text : Line → List ℕ
line_text l = spaced (words_of l)

-- opens each word of this file, for a computation
unfoldable pub writing_opens : Unit {0}
unfolding kind_name what_name open_text ballot_text base_words client_text place_text note_words known_text yes_or_no status_words words_of line_text
writing_opens = tt
