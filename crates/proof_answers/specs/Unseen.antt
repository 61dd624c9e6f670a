-- Offline zones are never read or checked: of every call, on whatever bytes (02, item 4). Assumes nothing.
use Rattle.std.specs.Prelude.{◌≡◌, List, [], ◌∷◌, Bool, true, ◌&&◌, ℕ, leb, length}
use Rattle.std.proofs.Math.Path.{refl, ap, ap₂}
use Rattle.std.proofs.Common.{sym, ◌∙◌, subst}
use Rattle.std.proofs.Math.Bool.{false}
use Rattle.std.proofs.Math.Dec.{eqb}
use Rattle.std.proofs.Math.ListN.{take}
use Rattle.spec.specs.declared.Answer.{Answer}
use Rattle.spec.specs.declared.Params.{Params}
use Rattle.spec.specs.Answers.{is_refused}
use Rattle.spec.specs.Calls.{Verdict, After, mk_after, cut_memory, limited, outcome}
use Rattle.spec.specs.Calls.Verdict.{refused, due}
use Rattle.spec.specs.declared.Answer.TheVariants.{Cut}
use Rattle.spec.specs.Drives.{View, Store, Disk, store_disk, store_all}
use Rattle.spec.specs.Engine.{Call, store_count, lent_block, verdict, lent_ok_of, call_on, Lent, Left, lent_disk, lent_memory, lent_all, left_by, lent_long, left_as, call_bytes}
use Rattle.spec.specs.Engine.Call.{write, land, close, reclaim, read, fill, restart, rebuild}
use Rattle.spec.specs.Memory.{Memory, state_len}
use Rattle.spec.specs.Params.{image_len, pointers_len, offline_len, addresses_len, compact_len, inflight_len}
use Rattle.spec_demands.specs.Rules.{SameGood, lent_on, SameCall, OfflineApart}
use Rattle.law_basic.specs.Ranges.{and_left}
use Rattle.law_drives.specs.Lengths.{whole_of}
use Rattle.law_views.specs.Alike.{seen_offline}
use Rattle.law_views.specs.Views.{seen}
use Rattle.proof_answers.specs.UnseenCalls.{write_same, close_same, empty_same, reclaim_same, read_same, fill_same}
use Rattle.proof_answers.specs.UnseenLand.{unseen_land_land_same}
use Rattle.proof_answers.specs.UnseenRestart.{unseen_restart_restart_same, rebuild_same}
use Rattle.proof_answers.specs.UnseenZones.{UnseenZonesAlike, alike_bytes}

-- every call decides the same
verdict_same : (p : Params) (long : Bool) (v u : View) → v.offline ≡ u.offline → (long ≡ true → UnseenZonesAlike p v u) → (m : Memory) (c : Call)
    → verdict p long v m c ≡ verdict p long u m c
unfolding verdict
verdict_same p long v u e al m (write a [] n) = empty_same p long v u e al m a
verdict_same p long v u e al m (write a (x ∷ b) n) = write_same p long v u e al m a (x ∷ b)
verdict_same p long v u e al m (land d s n) = unseen_land_land_same p m d s long v u e al
verdict_same p long v u e al m (close n) = close_same p long v u e al m
verdict_same p long v u e al m (reclaim n) = reclaim_same p long v u e al m
verdict_same p long v u e al m (read a) = read_same p long v u e al m a
verdict_same p long v u e al m (fill a b) = fill_same p long v u e al m a b
verdict_same p long v u e al m (restart d n) = unseen_restart_restart_same p long v u e al d m
verdict_same p long v u e al m (rebuild d n) = rebuild_same p long v u e al m d

-- what a verdict leaves: the same stores on whatever drives
record Leaves (p : Params) (n : ℕ) (m : Memory) (b : List ℕ) (x : Verdict) : Type 0 where
  answer : Answer
  stores : List Store
  memory : Memory
  block : List ℕ
  left : (k : Disk) → outcome p (store_disk p) n k m b x ≡ mk_after answer (store_all (store_disk p) stores k) memory block

unseen_leaves : (p : Params) (n : ℕ) (m : Memory) (b : List ℕ) (x : Verdict) → Leaves p n m b x
unseen_leaves p n m b (refused a) = record { answer = a; stores = []; memory = m; block = b; left = λ k. unfold outcome store_all in refl }
unseen_leaves p n m b (due q) = go (leb (length q.stores) n) refl
  where
    go : (t : Bool) → leb (length q.stores) n ≡ t → Leaves p n m b (due q)
    go true e = record {
      answer = q.answer;
      stores = q.stores;
      memory = q.memory;
      block = q.block;
      left = λ k. unfold outcome limited in ap (λ (t : Bool). limited t p (store_disk p) n k m b q) e;
    }
    go false e = record {
      answer = Cut;
      stores = take n q.stores;
      memory = cut_memory p m;
      block = b;
      left = λ k. unfold outcome limited in ap (λ (t : Bool). limited t p (store_disk p) n k m b q) e;
    }

-- what two calls leave
abbrev Both : Params → Lent → Disk → Left → Left → Type 0
Both p l h x y = (x.answer ≡ y.answer) × (x.block ≡ y.block) × (lent_on x.lent (lent_disk l) ≡ lent_on y.lent (lent_disk l))
    × ((ss : List Store) × (lent_disk x.lent ≡ store_all (store_disk p) ss (lent_disk l)) × (lent_disk y.lent ≡ store_all (store_disk p) ss h))

both : (p : Params) (l : Lent) (h : Disk) (a : Answer) (ss : List Store) (m : Memory) (b : List ℕ) (t : Bool)
    → Both p l h (left_by l (mk_after a (store_all (store_disk p) ss (lent_disk l)) m b) t) (left_by (lent_on l h) (mk_after a (store_all (store_disk p) ss h) m b) t)
unfolding left_by lent_all lent_disk lent_memory store_all
both p l h a ss m b true = (refl, refl, refl, ([], refl, refl))
both p l h a ss m b false = (refl, refl, refl, (ss, refl, refl))

module _ (p : Params) (l : Lent) (h : Disk) (c : Call) (s : SameGood p l.offline (lent_disk l) h) where
  abbrev off : List ℕ
  off = l.offline

  abbrev m : Memory
  m = lent_memory l

  long_same : lent_long p l ≡ lent_long p (lent_on l h)
  unfolding lent_ok_of lent_all lent_disk lent_memory
  long_same = ap₂ (λ (i q : ℕ).
      eqb (length off) (offline_len p) && eqb i (image_len p) && eqb q (pointers_len p) && eqb (length l.addresses) (addresses_len p)
      && eqb (length l.compact) (compact_len p) && eqb (length l.inflight) (inflight_len p) && eqb (length l.state) state_len) s.same_image s.same_pointers

  unseen_first : call_bytes p l c ≡ left_as l (outcome p (store_disk p) (store_count c) (lent_disk l) m (lent_block c) (verdict p (lent_long p l) (seen p off (lent_disk l)) m c))
  unfolding call_bytes call_on
  unseen_first = refl

  second : call_bytes p (lent_on l h) c ≡ left_as (lent_on l h) (outcome p (store_disk p) (store_count c) h m (lent_block c) (verdict p (lent_long p (lent_on l h)) (seen p off h) m c))
  unfolding call_bytes call_on lent_all lent_disk lent_memory
  second = refl

  unseen_decides : verdict p (lent_long p l) (seen p off (lent_disk l)) m c ≡ verdict p (lent_long p (lent_on l h)) (seen p off h) m c
  unseen_decides =
      verdict_same p (lent_long p l) (seen p off (lent_disk l)) (seen p off h) (seen_offline p off (lent_disk l) ∙ sym (seen_offline p off h))
      (λ e. alike_bytes p off (lent_disk l) h s (whole_of p off (lent_disk l) m (and_left (lent_ok_of p off (lent_disk l) m) (eqb (length l.state) state_len) e))) m c
      ∙ ap (λ (t : Bool). verdict p t (seen p off h) m c) long_same

  abbrev x : Verdict
  x = verdict p (lent_long p l) (seen p off (lent_disk l)) m c

  leave : Leaves p (store_count c) m (lent_block c) x
  leave = unseen_leaves p (store_count c) m (lent_block c) x

  unseen_one_left : call_bytes p l c ≡ left_as l (mk_after leave.answer (store_all (store_disk p) leave.stores (lent_disk l)) leave.memory leave.block)
  unseen_one_left = unseen_first ∙ ap (λ (r : After Disk). left_as l r) (leave.left (lent_disk l))

  two_left : call_bytes p (lent_on l h) c ≡ left_as (lent_on l h) (mk_after leave.answer (store_all (store_disk p) leave.stores h) leave.memory leave.block)
  two_left = second ∙ ap (λ (y : Verdict). left_as (lent_on l h) (outcome p (store_disk p) (store_count c) h m (lent_block c) y)) (sym unseen_decides)
      ∙ ap (λ (r : After Disk). left_as (lent_on l h) r) (leave.left h)

  both_left : Both p l h (call_bytes p l c) (call_bytes p (lent_on l h) c)
  both_left =
      subst (λ (a : Left). Both p l h a (call_bytes p (lent_on l h) c)) (sym unseen_one_left)
      (subst (λ (b : Left). Both p l h (left_as l (mk_after leave.answer (store_all (store_disk p) leave.stores (lent_disk l)) leave.memory leave.block)) b) (sym two_left)
      (both p l h leave.answer leave.stores leave.memory leave.block (is_refused leave.answer)))

  same_call : SameCall p l h c
  same_call = let (a, b, r, ss) = both_left in record { same_answer = a; same_block = b; same_rest = r; same_stores = ss }

pub offline_apart : OfflineApart
offline_apart p l h c s = same_call p l h c s
