-- What a client stands for, a notice or a word more.
use Rattle.std.proofs.Common.{◌≡◌, Bool, true, false, cond, List, [], ◌∷◌, ◌++◌, Option, Some, None, Result, Ok, Err, refl, sym, ap, ◌∙◌, arith, get_or}
use Rattle.std.specs.Prelude.{ℕ, find, OnOk}
use Rattle.std.specs.List.{fold}
use Rattle.std.specs.Option.{unwrap_or}
use Rattle.std.proofs.lemmas.List.Sums.{fold-append}
use Rattle.std.proofs.lemmas.Bool.Decides.{nat_tests}
use Rattle.rsct_packet.specs.declared.ids.ProviderId.{ProviderId}
use Rattle.rsct_packet.specs.Lists.{drop_where}
use Rattle.rsct_packet.specs.Providers.{among, same_provider}
use Rattle.rsct_packet.specs.Search.{place_where, insert_before}
use Rattle.rsct_packet.proofs.HasLaws.{find_has}
use Rattle.rsct_packet.proofs.SearchLaws.{read_at_place}
use Rattle.proposal_core.specs.declared.proposal.Proposal.{Proposal}
use Rattle.proposal_core.specs.declared.proposal.Proposal.TheVariants.{Join, Leave, Fail, Expel, State, Message, Attributes, Reflect}
use Rattle.client_callbacks.specs.declared.ballot.Filled.{Filled}
use Rattle.client_callbacks.specs.declared.told.Told.{Told}
use Rattle.client_callbacks.specs.Handed.{NoticeView, Handed, Notified, Informed}
use Rattle.table_client.specs.Rules.{Copied, is_copy, fresh_copy, copy_before, with_chunk, with_effect, with_members, with_place, copy_after, effect_of, taken, is_own, comes_after, noticed, informed, filled_for, copies_then, copies_after, FilledBy, ByRules}

-- ---- whose copy it is

pub provider_is : (a b : ProviderId) → same_provider a b ≡ true → a ≡ b
provider_is a b e = grind (arith, nat_tests)

pub before_is : (n : NoticeView) (copies : List Copied) (o : Option Copied) → find (is_copy n.provider) copies ≡ o → (unwrap_or o (fresh_copy n)).provider ≡ n.provider
before_is n copies None is = refl
before_is n copies (Some c) is = provider_is c.provider n.provider (find_has (is_copy n.provider) copies c is).1

chunk_keeps : (n : NoticeView) (c : Copied) (b : Bool) → is_own n.provider c.running ≡ b → (with_chunk n c).provider ≡ c.provider
unfolding with_chunk
chunk_keeps n c true is = rw is refl
chunk_keeps n c false is = rw is refl

joined_keeps : (c d : Copied) (b : Bool) → d.provider ≡ c.provider → (cond b d c).provider ≡ c.provider
joined_keeps c d true same = same
joined_keeps c d false same = refl

taken_keeps : (n : NoticeView) (c : Copied) (o : Option Proposal) → (taken n c o).provider ≡ c.provider
taken_keeps n c None = refl
taken_keeps n c (Some (Join ps attrs k)) = joined_keeps c _ (among ps n.provider) refl
taken_keeps n c (Some (Leave p r)) = refl
taken_keeps n c (Some (Fail out)) = refl
taken_keeps n c (Some (Expel p r out)) = refl
taken_keeps n c (Some (State p r value)) = refl
taken_keeps n c (Some (Message p r bytes)) = refl
taken_keeps n c (Some (Attributes p r attrs)) = refl
taken_keeps n c (Some (Reflect view place value)) = refl

members_keep : (n : NoticeView) (c : Copied) → (with_members n c).provider ≡ c.provider
unfolding with_members
members_keep n c = joined_keeps c _ _ refl

-- a notice leaves a copy its provider's
pub after_keeps : (n : NoticeView) (c : Copied) → (copy_after n c).provider ≡ c.provider
unfolding copy_after with_place with_effect
after_keeps n c =
    members_keep n (taken n (with_chunk n c) (effect_of n.entry (with_chunk n c).running))
    ∙ taken_keeps n (with_chunk n c) (effect_of n.entry (with_chunk n c).running)
    ∙ chunk_keeps n c (is_own n.provider c.running) refl

-- what is taken out at its place
pub taken_is : (n : NoticeView) (copies : List Copied) (i : ℕ) (c : Copied) → Some i ≡ place_where (is_copy n.provider) copies → c ≡ get_or copies i c → c ≡ copy_before n copies
taken_is n copies i c at read = read ∙ sym (ap (λ (o : Option Copied). unwrap_or o (fresh_copy n)) (read_at_place (is_copy n.provider) copies i c (sym at)))

-- a copy that was taken out, and put back as it is after the notice
pub noticed_is : (n : NoticeView) (copies left : List Copied) (before after : Copied) → before ≡ copy_before n copies → left ≡ drop_where (is_copy n.provider) copies → after ≡ copy_after n before → insert_before (comes_after after.provider) after left ≡ noticed n copies
unfolding noticed
noticed_is n copies left before after before_is_it left_is after_is =
    let own : (copy_after n (copy_before n copies)).provider ≡ n.provider =
    after_keeps n (copy_before n copies) ∙ before_is n copies (find (is_copy n.provider) copies) refl in
    let now : after ≡ copy_after n (copy_before n copies) = after_is ∙ ap (copy_after n) before_is_it in
    ap (λ (a : Copied). insert_before (comes_after a.provider) a left) now
    ∙ ap (insert_before (comes_after (copy_after n (copy_before n copies)).provider) (copy_after n (copy_before n copies))) (left_is ∙ ap (λ (p : ProviderId). drop_where (is_copy p) copies) (sym own))

pub noticed_ok : {T E : Type 0} (r : Result T E) (n : NoticeView) (copies left now : List Copied) (before after : Copied) → before ≡ copy_before n copies → left ≡ drop_where (is_copy n.provider) copies → after ≡ copy_after n before → OnOk r (now ≡ insert_before (comes_after after.provider) after left) → OnOk r (now ≡ noticed n copies)
noticed_ok (Ok x) n copies left now before after before_is_it left_is after_is put = put ∙ noticed_is n copies left before after before_is_it left_is after_is
noticed_ok (Err e) n copies left now before after before_is_it left_is after_is put = tt

-- ---- what takes effect, and what runs

-- what takes effect does not look at what runs
pub taken_runs : (n : NoticeView) (c : Copied) (o : Option Proposal) → record (taken n (record c { running = None }) o) { running = c.running } ≡ taken n c o
taken_runs n c None = refl
taken_runs n c (Some (Join ps attrs k)) = by (among ps n.provider) refl
  where
    by : (b : Bool) → among ps n.provider ≡ b → record (taken n (record c { running = None }) (Some (Join ps attrs k))) { running = c.running } ≡ taken n c (Some (Join ps attrs k))
    by true is = rw is refl
    by false is = rw is refl
taken_runs n c (Some (Leave p r)) = refl
taken_runs n c (Some (Fail out)) = refl
taken_runs n c (Some (Expel p r out)) = refl
taken_runs n c (Some (State p r value)) = refl
taken_runs n c (Some (Message p r bytes)) = refl
taken_runs n c (Some (Attributes p r attrs)) = refl
taken_runs n c (Some (Reflect view place value)) = refl

-- ---- what it was handed

after_more : (hs : List Handed) (x : Handed) → copies_after (hs ++ x ∷ []) ≡ copies_then (copies_after hs) x
unfolding copies_after
after_more hs x = fold-append copies_then [] hs (x ∷ [])

filled_more : (copies : List Copied) (hs : List Handed) (n : NoticeView) (f : Option Filled) → FilledBy copies hs → f ≡ filled_for n (fold copies_then copies hs) → FilledBy copies (hs ++ Notified n f ∷ [])
filled_more copies [] n f by is = (is, tt)
filled_more copies (Notified m g ∷ hs) n f by is = (by.0, filled_more (noticed m copies) hs n f by.1 is)
filled_more copies (Informed t ∷ hs) n f by is = filled_more (informed t copies) hs n f by is

told_more : (copies : List Copied) (hs : List Handed) (t : Told) → FilledBy copies hs → FilledBy copies (hs ++ Informed t ∷ [])
told_more copies [] t by = tt
told_more copies (Notified m g ∷ hs) t by = (by.0, told_more (noticed m copies) hs t by.1)
told_more copies (Informed u ∷ hs) t by = told_more (informed u copies) hs t by

pub notified_more : (copies left : List Copied) (hs : List Handed) (n : NoticeView) (f : Option Filled) → ByRules copies hs → left ≡ noticed n copies → f ≡ filled_for n copies → ByRules left (hs ++ Notified n f ∷ [])
unfolding copies_after
notified_more copies left hs n f by left_is filled = record {
  copies = left_is ∙ ap (noticed n) by.copies ∙ sym (after_more hs (Notified n f));
  ballots = filled_more [] hs n f by.ballots (filled ∙ ap (filled_for n) by.copies);
}

pub notified_ok : {T E : Type 0} (r : Result T E) (copies left : List Copied) (hs : List Handed) (n : NoticeView) (f : Option Filled) → ByRules copies hs → OnOk r (left ≡ noticed n copies) → OnOk r (f ≡ filled_for n copies) → OnOk r (ByRules left (hs ++ Notified n f ∷ []))
notified_ok (Ok x) copies left hs n f by left_is filled = notified_more copies left hs n f by left_is filled
notified_ok (Err e) copies left hs n f by left_is filled = tt

pub informed_more : (copies left : List Copied) (hs : List Handed) (t : Told) → ByRules copies hs → left ≡ informed t copies → ByRules left (hs ++ Informed t ∷ [])
informed_more copies left hs t by left_is = record {
  copies = left_is ∙ ap (informed t) by.copies ∙ sym (after_more hs (Informed t));
  ballots = told_more [] hs t by.ballots;
}

-- a client that was handed nothing
pub stands_at_first : (copies : List Copied) → copies ≡ [] → ByRules copies []
unfolding copies_after
stands_at_first copies none = record { copies = none; ballots = tt }
