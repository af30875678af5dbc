-- Entries that are copied and sent one after another.
use Rattle.std.proofs.Common.{◌≡◌, ℕ, zero, suc, ◌+◌, ◌-◌, ◌≤◌, nat_lt, false, List, [], ◌∷◌, ◌++◌, length, take, drop, Option, Some, None, refl, sym, ap, ◌∙◌, arith, length-append, add-zero}
use Rattle.std.specs.Prelude.{fold, slice_get}
use Rattle.proposal_core.specs.declared.entry.Entry.{Entry}
use Rattle.proposal_core.specs.GroupView.{GroupView}
use Rattle.proposal_core.specs.Lists.{entry_at}
use Rattle.node_state.specs.declared.packet.Body.TheVariants as body
use Rattle.node_state.specs.declared.state.Core.{Core}
use Rattle.node_state.specs.State.{acked_by, least_acked, row_of}
use Rattle.node_state.specs.Sending.{sent}
use Rattle.node_state.specs.Ticks.{entries_sent, list_sent_again, sent_again}
use Rattle.node_groups.specs.Keeps.{Keeps}
use Rattle.node_groups.proofs.KeepLaws.{keeps_itself, keeps_then, sent_keeps}

-- ---- copies

taken_more : (es : List Entry) (n : ℕ) (e : Entry) → Some e ≡ slice_get es n → take (n + 1) es ≡ take n es ++ e ∷ []
taken_more [] n e h = absurd cc
taken_more (x ∷ es) zero e h = let same : e ≡ x = cc in rw same refl
taken_more (x ∷ es) (suc n) e h = let a : suc n + 1 ≡ suc (n + 1) = omega arith in rw a (ap (λ (ys : List Entry). x ∷ ys) (taken_more es n e h))

dropped_more : (es : List Entry) (k n : ℕ) (e : Entry) → Some e ≡ slice_get es (k + n) → take (n + 1) (drop k es) ≡ take n (drop k es) ++ e ∷ []
dropped_more es zero n e h = let a : 0 + n ≡ n = omega arith in taken_more es n e (rw a at h)
dropped_more [] (suc k) n e h = absurd cc
dropped_more (x ∷ es) (suc k) n e h = let a : suc k + n ≡ suc (k + n) = omega arith in dropped_more es k n e (rw a at h)

taken_end : (es : List Entry) (n m : ℕ) → None ≡ slice_get es n → n ≤ m → take n es ≡ take m es
taken_end [] zero zero h l = refl
taken_end [] zero (suc m) h l = refl
taken_end [] (suc n) zero h l = refl
taken_end [] (suc n) (suc m) h l = refl
taken_end (x ∷ es) zero m h l = absurd cc
taken_end (x ∷ es) (suc n) zero h l = absurd (omega arith)
taken_end (x ∷ es) (suc n) (suc m) h l = let below : n ≤ m = omega arith in ap (λ (ys : List Entry). x ∷ ys) (taken_end es n m h below)

dropped_end : (es : List Entry) (k n m : ℕ) → None ≡ slice_get es (k + n) → n ≤ m → take n (drop k es) ≡ take m (drop k es)
dropped_end es zero n m h l = let a : 0 + n ≡ n = omega arith in taken_end es n m (rw a at h) l
dropped_end [] (suc k) n m h l = taken_end [] n m refl l
dropped_end (x ∷ es) (suc k) n m h l = let a : suc k + n ≡ suc (k + n) = omega arith in dropped_end es k n m (rw a at h) l

read_from : (l : GroupView) (place k n : ℕ) → l.start ≤ place → place - l.start ≡ k + n → entry_at l place ≡ slice_get l.entries (k + n)
unfolding entry_at
read_from l place k n h e = let past : nat_lt place l.start ≡ false = grind arith in rw (past, e) refl

-- one copy more
pub copied_more : (l : GroupView) (from place : ℕ) (xs : List Entry) (e : Entry) → l.start ≤ from → place ≡ from + length xs → xs ≡ take (length xs) (drop (from - l.start) l.entries)
    → Some e ≡ entry_at l place → xs ++ e ∷ [] ≡ take (length (xs ++ e ∷ [])) (drop (from - l.start) l.entries)
copied_more l from place xs e h at so_far read =
    let here : l.start ≤ place = omega arith in
    let k : place - l.start ≡ from - l.start + length xs = omega arith in
    let more = dropped_more l.entries (from - l.start) (length xs) e (read ∙ read_from l place (from - l.start) (length xs) here k) in
    rw (length-append xs (e ∷ [])) (ap (λ (ys : List Entry). ys ++ e ∷ []) so_far ∙ sym more)

-- no entry more
pub copied_end : (l : GroupView) (from place : ℕ) (xs : List Entry) → l.start ≤ from → place ≡ from + length xs → xs ≡ take (length xs) (drop (from - l.start) l.entries)
    → length xs ≤ 16 → None ≡ entry_at l place → xs ≡ take 16 (drop (from - l.start) l.entries)
copied_end l from place xs h at so_far few read =
    let here : l.start ≤ place = omega arith in
    let k : place - l.start ≡ from - l.start + length xs = omega arith in
    so_far ∙ dropped_end l.entries (from - l.start) (length xs) 16 (read ∙ read_from l place (from - l.start) (length xs) here k) few

-- ---- sending

pub entries_none : (to : ℕ) (g : List ℕ) (i stable : ℕ) (s : Core) → entries_sent to g i stable [] s ≡ s
unfolding entries_sent
entries_none to g i stable s = refl

pub entries_more : (to : ℕ) (g : List ℕ) (i stable : ℕ) (xs : List Entry) (e : Entry) (s : Core) → sent (entries_sent to g i stable xs s) to (body.Entry (entries_sent to g i stable xs s).views.view g (i + length xs) stable e) ≡ entries_sent to g i stable (xs ++ e ∷ []) s
unfolding entries_sent
entries_more to g i stable [] e s = rw (add-zero i) refl
entries_more to g i stable (x ∷ xs) e s =
    let a : i + suc (length xs) ≡ i + 1 + length xs = omega arith in rw a (entries_more to g (i + 1) stable xs e (sent s to (body.Entry s.views.view g i stable x)))

pub keeps_entries : (to : ℕ) (g : List ℕ) (i stable : ℕ) (es : List Entry) (s : Core) → Keeps s (entries_sent to g i stable es s)
unfolding entries_sent
keeps_entries to g i stable [] s = keeps_itself s
keeps_entries to g i stable (e ∷ es) s =
    keeps_then _ _ _ (sent_keeps s to (body.Entry s.views.view g i stable e)) (keeps_entries to g (i + 1) stable es (sent s to (body.Entry s.views.view g i stable e)))

keeps_list : (s : Core) (g : List ℕ) (n first : ℕ) (l : Option GroupView) → Keeps s (list_sent_again s g n first l)
unfolding list_sent_again
keeps_list s g n first None = keeps_itself s
keeps_list s g n first (Some l) = keeps_entries n g first (least_acked s g) _ s

pub keeps_again : (g : List ℕ) (s : Core) (n : ℕ) → Keeps s (sent_again g s n)
unfolding sent_again
keeps_again g s n = keeps_list s g n (acked_by s (row_of s g) n) (row_of s g).list

pub keeps_each_again : (g : List ℕ) (s : Core) (ns : List ℕ) → Keeps s (fold (sent_again g) s ns)
keeps_each_again g s [] = keeps_itself s
keeps_each_again g s (n ∷ ns) = keeps_then _ _ _ (keeps_again g s n) (keeps_each_again g (sent_again g s n) ns)
