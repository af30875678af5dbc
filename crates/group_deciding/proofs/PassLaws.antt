-- How passes that are done one after another come together.
use Rattle.std.proofs.Common.{◌≡◌, Bool, true, List, [], ◌++◌, Option, refl, sym, ap, ◌∙◌, append_assoc}
use Rattle.client_callbacks.specs.declared.votes.VoteItem.{VoteItem}
use Rattle.node_state.specs.declared.state.Core.{Core}
use Rattle.node_state.specs.HandOn.{Answering}
use Rattle.node_state.specs.Ending.{Pass, begun_now}
use Rattle.entry_delivery.specs.Received.{Handing}
use Rattle.entry_delivery.specs.Doing.{Joins, Follows, Does}
use Rattle.entry_delivery.proofs.DoingLaws.{does_then, does_after, does_as, does_with, does_weaker}
use Rattle.group_deciding.specs.Passing.{passed, AreThese, Before, DoesPass}

-- what is done next
pub pass_next : (scripts : List (Option (List (Option VoteItem)))) (P Q W : List Handing → Type 0) → Joins P Q W → (s t u : Core) (b : Bool) (a : Answering → Pass) (rest : Answering → Pass → Core)
    → DoesPass scripts P s t b a → Does scripts Q t u (λ f. rest f (passed t b)) → Does scripts W s u (λ f. rest f (a f))
pass_next scripts P Q W join s t u b a rest first done =
    does_weaker scripts (Before P done.handings) W s u (λ f. rest f (a f)) (λ xs h. rw h.2 (join h.0 done.handings h.1 done.received))
    (first.next u rest done.handings (does_with scripts Q (AreThese done.handings) t u (λ f. rest f (passed t b)) (λ f. rest f (passed t b)) (λ f. refl) done refl))

joins_these : (P : List Handing → Type 0) (hs : List Handing) → Joins P (AreThese hs) (Before P hs)
joins_these P hs xs ys p e = (xs, p, ap (λ (zs : List Handing). xs ++ zs) e)

joins_before : (P Q W : List Handing → Type 0) (hs : List Handing) → Joins P Q W → Joins P (Before Q hs) (Before W hs)
joins_before P Q W hs join xs ys p b = (xs ++ b.0, join xs b.0 p b.1, ap (λ (zs : List Handing). xs ++ zs) b.2 ∙ sym (append_assoc xs b.0 hs))

-- one row after another
pub pass_then : (scripts : List (Option (List (Option VoteItem)))) (P Q W : List Handing → Type 0) → Joins P Q W → (s t u : Core) (b c : Bool) (a : Answering → Pass) (k : Answering → Pass → Pass)
    → DoesPass scripts P s t b a → DoesPass scripts Q t u c (λ f. k f (passed t b)) → DoesPass scripts W s u c (λ f. k f (a f))
pass_then scripts P Q W join s t u b c a k first after =
    record {
      next = λ w rest hs done.
          pass_next scripts P (Before Q hs) (Before W hs) (joins_before P Q W hs join) s t w b a (λ f p. rest f (k f p)) first
          (pass_next scripts Q (AreThese hs) (Before Q hs) (joins_these Q hs) t u w c (λ f. k f (passed t b)) rest after done);
    }

-- a row that begins something
pub pass_begins : (scripts : List (Option (List (Option VoteItem)))) (P : List Handing → Type 0) (s t : Core) (a : Answering → Core) → Does scripts P s t a → DoesPass scripts P s t true (λ f. begun_now (a f))
pass_begins scripts P s t a first = record { next = λ w rest hs done. does_then scripts P (AreThese hs) (Before P hs) (joins_these P hs) s t w a (λ f x. rest f (begun_now x)) first done }

-- nothing at all
pub pass_nothing : (scripts : List (Option (List (Option VoteItem)))) (P : List Handing → Type 0) → P [] → (s : Core) (b : Bool) → DoesPass scripts P s s b (λ f. passed s b)
pass_nothing scripts P p s b = record { next = λ w rest hs done. does_weaker scripts (AreThese hs) (Before P hs) s w (λ f. rest f (passed s b)) (λ xs e. ([], p, e)) done }

-- a change before
pub pass_after : (scripts : List (Option (List (Option VoteItem)))) (P : List Handing → Type 0) (s t u : Core) (b : Bool) (a : Answering → Pass) → Follows s t → DoesPass scripts P t u b a → DoesPass scripts P s u b a
pass_after scripts P s t u b a on after = record { next = λ w rest hs done. does_after scripts (Before P hs) s t w (λ f. rest f (a f)) on (after.next w rest hs done) }

-- the same row in other words
pub pass_as : (scripts : List (Option (List (Option VoteItem)))) (P : List Handing → Type 0) (s t : Core) (b : Bool) (a k : Answering → Pass) → ((f : Answering) → a f ≡ k f) → DoesPass scripts P s t b a → DoesPass scripts P s t b k
pass_as scripts P s t b a k same first = record { next = λ w rest hs done. does_as scripts (Before P hs) s w (λ f. rest f (a f)) (λ f. rest f (k f)) (λ f. ap (rest f) (same f)) (first.next w rest hs done) }
