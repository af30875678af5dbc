-- The words of what is written: those between its spaces.
use Rattle.std.specs.Prelude.{ℕ, ◌++◌, List, [], ◌∷◌, flat_map, Option, Some, None, codes, decimal}
use Rattle.group_attr.specs.declared.attrs.Attrs.{Attrs}
use Rattle.proposal_core.specs.declared.proposal.Proposal.{Proposal}
use Rattle.proposal_core.specs.declared.proposal.Proposal.TheVariants as proposal
use Rattle.proposal_core.specs.declared.entry.Closed.{Closed}
use Rattle.proposal_core.specs.declared.entry.Entry.{Entry}
use Rattle.proposal_core.specs.declared.entry.Entry.TheVariants as entry
use Rattle.value_words.specs.Wording.{proto_text, joined, providers_text, value_text}
use Rattle.entry_words.specs.declared.attrs.AttrKey.{AttrKey}
use Rattle.entry_words.specs.Words.{every_key, attr_row}
use Rattle.entry_words.specs.Wording.{kind_text, value_option_text, failure_text, asker_text, row_text}

-- words, each behind a space
unfoldable pub behind : List (List ℕ) → List ℕ
behind [] = []
behind (w ∷ ws) = 32 ∷ w ++ behind ws

-- the word of an attribute with this value; none without one
abbrev pub attr_value_words : AttrKey → Option (List ℕ) → List (List ℕ)
attr_value_words k None = []
attr_value_words k (Some v) = ((attr_row k).word ++ 61 ∷ v) ∷ []

-- that of an attribute, where it is not that of the empty state
unfoldable pub attr_spelled : Attrs → AttrKey → List (List ℕ)
attr_spelled a k = attr_value_words k ((attr_row k).value a)

unfoldable pub attrs_words : Attrs → List (List ℕ)
attrs_words a = flat_map (attr_spelled a) every_key

unfoldable pub source_len_words : Option ℕ → List (List ℕ)
source_len_words None = []
source_len_words (Some n) = (codes "src=" ++ decimal n) ∷ []

-- those behind the word of the kind
unfoldable pub proposed_spelled : Proposal → List (List ℕ)
proposed_spelled (proposal.Join ps a n) = providers_text ps ∷ attrs_words a ++ source_len_words n
proposed_spelled (proposal.Leave p r) = asker_text p r ∷ []
proposed_spelled (proposal.Fail out) = joined failure_text out ∷ []
proposed_spelled (proposal.Expel p r out) = asker_text p r ∷ providers_text out ∷ []
proposed_spelled (proposal.State p r value) = asker_text p r ∷ value_text value ∷ []
proposed_spelled (proposal.Message p r bytes) = asker_text p r ∷ value_text bytes ∷ []
proposed_spelled (proposal.Attributes p r a) = asker_text p r ∷ attrs_words a
proposed_spelled (proposal.Reflect v i value) = proto_text (record { view = v; place = i }) ∷ value_text value ∷ []

unfoldable pub closed_spelled : Closed → List (List ℕ) → List (List ℕ)
closed_spelled c more = proto_text c.proto ∷ decimal c.phase ∷ joined row_text c.rows ∷ more

-- the first word of an entry
unfoldable pub entry_first : Entry → List ℕ
entry_first (entry.Once x) = codes "once"
entry_first (entry.Begin x) = codes "begin"
entry_first (entry.Phase c) = codes "phase"
entry_first (entry.Approve c) = codes "approve"
entry_first (entry.Reject c) = codes "reject"
entry_first (entry.Late proto phase ps) = codes "late"

-- those behind it
unfoldable pub entry_spelled : Entry → List (List ℕ)
entry_spelled (entry.Once x) = kind_text x ∷ proposed_spelled x
entry_spelled (entry.Begin x) = kind_text x ∷ proposed_spelled x
entry_spelled (entry.Phase c) = closed_spelled c (value_option_text c.value ∷ [])
entry_spelled (entry.Approve c) = closed_spelled c (value_option_text c.value ∷ [])
entry_spelled (entry.Reject c) = closed_spelled c []
entry_spelled (entry.Late proto phase ps) = proto_text proto ∷ decimal phase ∷ providers_text ps ∷ []
