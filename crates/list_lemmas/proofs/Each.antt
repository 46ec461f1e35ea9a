-- What holds of each item of a list, item by item.
use Rattle.std.proofs.Common.{List, [], ◌∷◌, ◌++◌, ◌≡◌, suc, length, refl, ap}
use Rattle.std.specs.List.{AllByRecursion, AllZip}

pub all_append : {T : Type 0} (P : T → Type 0) (xs ys : List T) → AllByRecursion P xs → AllByRecursion P ys → AllByRecursion P (xs ++ ys)
all_append P [] ys all others = others
all_append P (x ∷ xs) ys all others = (all.0, all_append P xs ys all.1 others)

pub all_push : {T : Type 0} (P : T → Type 0) (xs : List T) (x : T) → AllByRecursion P xs → P x → AllByRecursion P (xs ++ x ∷ [])
all_push P [] x all one = (one, tt)
all_push P (y ∷ xs) x all one = (all.0, all_push P xs x all.1 one)

-- what holds of each gives more of each
pub all_then : {T : Type 0} (P Q : T → Type 0) → ((x : T) → P x → Q x) → (xs : List T) → AllByRecursion P xs → AllByRecursion Q xs
all_then P Q f [] all = tt
all_then P Q f (x ∷ xs) all = (f x all.0, all_then P Q f xs all.1)

-- of two lists, item beside item
pub all_zip_push : {A B : Type 0} (R : A → B → Type 0) (xs : List A) (ys : List B) (x : A) (y : B) → AllZip R xs ys → R x y → AllZip R (xs ++ x ∷ []) (ys ++ y ∷ [])
all_zip_push R [] [] x y all one = (one, tt)
all_zip_push R [] (z ∷ ys) x y all one = absurd all
all_zip_push R (z ∷ xs) [] x y all one = absurd all
all_zip_push R (z ∷ xs) (w ∷ ys) x y all one = (all.0, all_zip_push R xs ys x y all.1 one)

pub length_all_zip : {A B : Type 0} (R : A → B → Type 0) (xs : List A) (ys : List B) → AllZip R xs ys → length ys ≡ length xs
length_all_zip R [] [] all = refl
length_all_zip R [] (y ∷ ys) all = absurd all
length_all_zip R (x ∷ xs) [] all = absurd all
length_all_zip R (x ∷ xs) (y ∷ ys) all = ap suc (length_all_zip R xs ys all.1)
