-- Stores one list after the other.
use Rattle.std.specs.Prelude.{◌≡◌, List, [], ◌∷◌, ◌++◌, ℕ}
use Rattle.std.proofs.Math.Path.{refl}
use Rattle.std.proofs.Common.{sym, subst, ⊎_elim}
use Rattle.spec.specs.declared.Params.{Params}
use Rattle.spec.specs.Drives.{Zone, View, zone_at, pointer_at, Store, put_zone, reset_zone, store_view_of, store_all}
use Rattle.spec.specs.Drives.Store.{put, reset}
use Rattle.spec.specs.Lists.{keep}
use Rattle.law_drives.specs.Members.{In, in_append}
use Rattle.law_drives.specs.Puts.{hits-append}
use Rattle.law_drives.specs.Zones.{Sized, zone_store, hits, zone_after, Room, Within, put_pointer, reset_pointer, Roomy}

room_join : (p : Params) (xs ys : List Store) (q : Zone) → Room p q.pointer xs → Room p (store_all zone_store xs q).pointer ys → Room p q.pointer (xs ++ ys)
unfolding store_all zone_store
room_join p [] ys q a b = b
room_join p (put d z x s ∷ xs) ys q a b =
    (a.0, subst (λ (n : ℕ). Room p n (xs ++ ys)) (put_pointer x s q) (room_join p xs ys (put_zone x s q) (subst (λ (n : ℕ). Room p n xs) (sym (put_pointer x s q)) a.1) b))
room_join p (reset d z ∷ xs) ys q a b = subst (λ (n : ℕ). Room p n (xs ++ ys)) (reset_pointer q) (room_join p xs ys (reset_zone q) (subst (λ (n : ℕ). Room p n xs) (sym (reset_pointer q)) a) b)

pub roomy_append : (p : Params) (v : View) (ss ts : List Store) → Sized p v → Roomy p v ss → Roomy p (store_all store_view_of ss v) ts → Roomy p v (ss ++ ts)
roomy_append p v ss ts w a b d z hd hz =
    subst (λ (l : List Store). Room p (pointer_at v d z) l) (sym (hits-append d z ss ts))
    (as! (room_join p (hits d z ss) (hits d z ts) (zone_at v d z) (bs! (a d z hd hz)) (subst (λ (q : Zone). Room p q.pointer (hits d z ts)) (zone_after p v d z ss w hd hz) (cs! (b d z hd hz)))))
  where
    as! : Room p (zone_at v d z).pointer (hits d z ss ++ hits d z ts) → Room p (pointer_at v d z) (hits d z ss ++ hits d z ts)
    as! x = unfold pointer_at in x

    bs! : Room p (pointer_at v d z) (hits d z ss) → Room p (zone_at v d z).pointer (hits d z ss)
    bs! x = unfold pointer_at in x

    cs! : Room p (pointer_at (store_all store_view_of ss v) d z) (hits d z ts) → Room p (zone_at (store_all store_view_of ss v) d z).pointer (hits d z ts)
    cs! x = unfold pointer_at in x

pub within_append : (p : Params) (ss ts : List Store) → ((s : Store) → In s ss → Within p s) → ((s : Store) → In s ts → Within p s) → (s : Store) → In s (ss ++ ts) → Within p s
within_append p ss ts a b s m = ⊎_elim (λ x. a s x) (λ x. b s x) (in_append s ss ts m)

pub roomy_none : (p : Params) (v : View) → Roomy p v []
roomy_none p v d z hd hz = go
  where
    go : Room p (pointer_at v d z) (hits d z [])
    go = unfold keep in tt

pub stores_none : (v : View) → store_all store_view_of [] v ≡ v
stores_none v = unfold store_all in refl
