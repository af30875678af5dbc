-- The words that say how a client votes: items joined by commas. An item is `-`, which is silent, or a vote,
-- `A`, `C` or `R`, with `=` and a value after it or not. A value is a text with `%XX` for any byte; `~` alone
-- is the empty one.
use Rattle.std.specs.Prelude.{ℕ, Bool, ◌==◌, ◌&&◌, ◌+◌, ◌-◌, ◌++◌, List, [], ◌∷◌, Option, Some, None, nat_le, codes, if◌then◌else◌}
use Rattle.std.specs.List.{fold, list_all}
use Rattle.std.specs.Str.{bytes_eq}
use Rattle.proposal_core.specs.declared.entry.Vote.{Vote}
use Rattle.proposal_core.specs.declared.entry.Vote.TheVariants.{Approve, Continue, Reject}
use Rattle.client_callbacks.specs.declared.votes.VoteItem.{VoteItem}
use Rattle.client_callbacks.specs.declared.votes.VotesRead.{VotesRead}
use Rattle.value_words.specs.Escapes.{text_word, escapes_open}

unfoldable pub vote_letter : ℕ → Option Vote
vote_letter b = if b == 65 then Some Approve else if b == 67 then Some Continue else if b == 82 then Some Reject else None

abbrev pub vote_valued : Vote → Option (List ℕ) → Option VoteItem
vote_valued v None = None
vote_valued v (Some value) = Some (record { vote = v; value = Some value })

abbrev pub vote_with : Option Vote → List ℕ → Option VoteItem
vote_with None w = None
vote_with (Some v) [] = Some (record { vote = v; value = None })
vote_with (Some v) (b ∷ bs) = if b == 61 then vote_valued v (text_word bs) else None

-- `A`, `C` or `R`, and a value after `=` or none
unfoldable pub vote_word : List ℕ → Option VoteItem
vote_word [] = None
vote_word (b ∷ bs) = vote_with (vote_letter b) bs

abbrev pub loud : Option VoteItem → Option (Option VoteItem)
loud None = None
loud (Some i) = Some (Some i)

-- an item of a votes word
unfoldable pub vote_item : List ℕ → Option (Option VoteItem)
vote_item w = if bytes_eq w (codes "-") then Some None else loud (vote_word w)

abbrev pub with_item : Option (List (Option VoteItem)) → Option (Option VoteItem) → Option (List (Option VoteItem))
with_item None x = None
with_item (Some items) None = None
with_item (Some items) (Some i) = Some (items ++ i ∷ [])

unfoldable pub votes_end : VotesRead → Option (List (Option VoteItem))
votes_end r = with_item r.items (vote_item r.piece)

unfoldable pub votes_byte : VotesRead → ℕ → VotesRead
votes_byte r b = if b == 44 then record { items = votes_end r; piece = [] } else record r { piece = r.piece ++ b ∷ [] }

-- printable, and no space
abbrev pub is_word : List ℕ → Bool
is_word w = list_all (λ b. nat_le 33 b && nat_le b 126) w

-- the items of a votes word; `boxed` is none
unfoldable pub votes_word : List ℕ → Option (List (Option VoteItem))
votes_word w = if is_word w then votes_end (fold votes_byte (record { items = Some []; piece = [] }) w) else None

-- opens each word of this file, for a computation
unfoldable pub votes_opens : Unit {0}
unfolding escapes_open vote_letter vote_word vote_item votes_end votes_byte votes_word
votes_opens = tt
