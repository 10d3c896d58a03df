-- Laws of lists that the files beside this one share.
use Rattle.std.specs.Prelude.{◌≡◌, refl, List, [], ◌∷◌, ◌++◌, map, ℕ, zero, suc, get_or, set, replicate}
use Rattle.std.proofs.Common.{ap, subst, arith}
use Rattle.std.proofs.Math.Option
use Rattle.std.proofs.Math.Option.{some}
use Rattle.std.proofs.Math.ListN.{get_elem?}
use Rattle.meaning_laws.specs.Lists.{All}

pub map-set : {A B : Type 0} (f : A → B) (l : List A) (n : ℕ) (a : A) → map f (set l n a) ≡ set (map f l) n (f a)
map-set f [] n a = refl
map-set f (x ∷ xs) zero a = refl
map-set f (x ∷ xs) (suc n) a = ap (λ r. f x ∷ r) (map-set f xs n a)

pub map_at : {A B : Type 0} (f : A → B) (l : List A) (n : ℕ) → get_elem? (map f l) n ≡ Option.map f (get_elem? l n)
map_at f [] n = refl
map_at f (x ∷ xs) zero = refl
map_at f (x ∷ xs) (suc n) = map_at f xs n

pub all_set : {A : Type 0} (Q : A → Type 0) (l : List A) (n : ℕ) (a : A) → All Q l → Q a → All Q (set l n a)
all_set Q [] n a h q = tt
all_set Q (x ∷ xs) zero a h q = (q, h.1)
all_set Q (x ∷ xs) (suc n) a h q = (h.0, all_set Q xs n a h.1 q)

pub all_get : {A : Type 0} (Q : A → Type 0) (l : List A) (n : ℕ) (d : A) → All Q l → Q d → Q (get_or l n d)
all_get Q [] n d h q = q
all_get Q (x ∷ xs) zero d h q = h.0
all_get Q (x ∷ xs) (suc n) d h q = all_get Q xs n d h.1 q

pub all_at : {A : Type 0} (Q : A → Type 0) (l : List A) (n : ℕ) (a : A) → All Q l → get_elem? l n ≡ some a → Q a
all_at Q [] n a h e = let z : ◌≡◌ {A = ℕ} 0 1 = cc in absurd (omega (arith, z))
all_at Q (x ∷ xs) zero a h e = let same : x ≡ a = cc in subst Q same h.0
all_at Q (x ∷ xs) (suc n) a h e = all_at Q xs n a h.1 e

pub all_map : {A B : Type 0} (Q : B → Type 0) (g : A → B) (l : List A) → ((a : A) → Q (g a)) → All Q (map g l)
all_map Q g [] h = tt
all_map Q g (x ∷ xs) h = (h x, all_map Q g xs h)

pub all_append : {A : Type 0} (Q : A → Type 0) (l k : List A) → All Q l → All Q k → All Q (l ++ k)
all_append Q [] k h g = g
all_append Q (x ∷ xs) k h g = (h.0, all_append Q xs k h.1 g)

pub all_front : {A : Type 0} (Q : A → Type 0) (l k : List A) → All Q (l ++ k) → All Q l
all_front Q [] k h = tt
all_front Q (x ∷ xs) k h = (h.0, all_front Q xs k h.1)

pub all_back : {A : Type 0} (Q : A → Type 0) (l k : List A) → All Q (l ++ k) → All Q k
all_back Q [] k h = h
all_back Q (x ∷ xs) k h = all_back Q xs k h.1

-- Where every element comes from one that has the property, by way of g.
pub all_along : {A B : Type 0} (Q : A → Type 0) (R : B → Type 0) (g : A → B) (l : List A) → ((a : A) → Q a → R (g a)) → All Q l → All R (map g l)
all_along Q R g [] f h = tt
all_along Q R g (x ∷ xs) f h = (f x h.0, all_along Q R g xs f h.1)

pub all_replicate : {A : Type 0} (Q : A → Type 0) (n : ℕ) (a : A) → Q a → All Q (replicate n a)
all_replicate Q zero a q = tt
all_replicate Q (suc n) a q = (q, all_replicate Q n a q)

pub all_weaken : {A : Type 0} (Q R : A → Type 0) (l : List A) → ((a : A) → Q a → R a) → All Q l → All R l
all_weaken Q R [] f h = tt
all_weaken Q R (x ∷ xs) f h = (f x h.0, all_weaken Q R xs f h.1)
