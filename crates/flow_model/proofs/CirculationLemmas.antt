-- Sums over the arcs and over the nodes of a network.
use Rattle.std.proofs.Common.{◌≡◌, ◌≢◌, ℕ, zero, suc, ◌+◌, ◌*◌, ◌<◌, ◌≤◌, ◌==◌, List, [], ◌∷◌, if◌then◌else◌, refl, arith, sym, ap, inl, inr}
use Rattle.std.proofs.lemmas.Bool.{eq-eqb, ne_eqb, cases_eq}
use Rattle.flow_model.specs.declared.arc.Arc.{Arc}
use Rattle.flow_model.specs.Circulation.{root, sum_where, inflow, outflow, Conserve}

-- the sum over the nodes below k
unfoldable pub sum_to : ℕ → (ℕ → ℕ) → ℕ
sum_to zero f = 0
sum_to (suc k) f = f 0 + sum_to k (λ s. f (suc s))

sum_to-add : (k : ℕ) (f g : ℕ → ℕ) → sum_to k (λ s. f s + g s) ≡ sum_to k f + sum_to k g
unfolding sum_to
sum_to-add zero f g = refl
sum_to-add (suc k) f g = let more = sum_to-add k (λ s. f (suc s)) (λ s. g (suc s)) in omega (arith, more)

sum_to-eq : (k : ℕ) (f g : ℕ → ℕ) → ((s : ℕ) → f s ≡ g s) → sum_to k f ≡ sum_to k g
unfolding sum_to
sum_to-eq zero f g same = refl
sum_to-eq (suc k) f g same =
    let more = sum_to-eq k (λ s. f (suc s)) (λ s. g (suc s)) (λ s. same (suc s)) in
    omega (arith, more, same 0)

sum_to-none : (k : ℕ) (f : ℕ → ℕ) → ((s : ℕ) → f s ≡ 0) → sum_to k f ≡ 0
unfolding sum_to
sum_to-none zero f none = refl
sum_to-none (suc k) f none =
    let more = sum_to-none k (λ s. f (suc s)) (λ s. none (suc s)) in
    omega (arith, more, none 0)

-- where one node alone counts
sum_to-one : (k h : ℕ) (f : ℕ → ℕ) → h < k → ((s : ℕ) → s ≢ h → f s ≡ 0) → sum_to k f ≡ f h
unfolding sum_to
sum_to-one zero h f below others = absurd (omega (arith, below))
sum_to-one (suc k) zero f below others =
    let more = sum_to-none k (λ s. f (suc s)) (λ s. others (suc s) (λ e. omega (arith, e))) in
    omega (arith, more)
sum_to-one (suc k) (suc h) f below others =
    let more = sum_to-one k h (λ s. f (suc s)) (omega (arith, below)) (λ s apart. others (suc s) (λ e. apart (omega (arith, e)))) in
    omega (arith, more, others 0 (λ e. omega (arith, e)))

-- the sum over the arcs of the price at one end, times the count
unfoldable pub priced : (Arc → ℕ) → (ℕ → ℕ) → List Arc → List ℕ → ℕ
priced end p (arc ∷ arcs) (n ∷ counts) = p (end arc) * n + priced end p arcs counts
priced end p _ _ = 0

-- a number above all ends
pub above : (Arc → ℕ) → List Arc → ℕ
above end [] = 0
above end (arc ∷ arcs) = suc (end arc) + above end arcs

at_end : (p : ℕ → ℕ) (h n s : ℕ) → s ≢ h → p s * (if h == s then n else 0) ≡ 0
at_end p h n s apart = rw (ne_eqb h s (λ e. apart (sym e))) (omega arith)

at_itself : (p : ℕ → ℕ) (h n : ℕ) → p h * (if h == h then n else 0) ≡ p h * n
at_itself p h n = rw (eq-eqb h h refl)

spread : (p : ℕ → ℕ) (s m n : ℕ) → p s * (m + n) ≡ p s * m + p s * n
spread p s m n = omega arith

pub priced_by_node : (k : ℕ) (end : Arc → ℕ) (p : ℕ → ℕ) (arcs : List Arc) (counts : List ℕ) → above end arcs ≤ k
    → priced end p arcs counts ≡ sum_to k (λ s. p s * sum_where (λ arc. end arc == s) arcs counts)
unfolding priced above
priced_by_node k end p [] counts within = sym (sum_to-none k (λ s. p s * 0) (λ s. omega arith))
priced_by_node k end p (arc ∷ arcs) [] within = sym (sum_to-none k (λ s. p s * 0) (λ s. omega arith))
priced_by_node k end p (arc ∷ arcs) (n ∷ counts) within =
    let here : ℕ → ℕ = λ s. p s * (if end arc == s then n else 0) in
    let there : ℕ → ℕ = λ s. p s * sum_where (λ arc. end arc == s) arcs counts in
    let more = priced_by_node k end p arcs counts (omega (arith, within)) in
    let one = sum_to-one k (end arc) here (omega (arith, within)) (at_end p (end arc) n) in
    let split = sum_to-eq k (λ s. p s * ((if end arc == s then n else 0) + sum_where (λ arc. end arc == s) arcs counts)) (λ s. here s + there s)
    (λ s. spread p s (if end arc == s then n else 0) (sum_where (λ arc. end arc == s) arcs counts)) in
    let added = sum_to-add k here there in
    let itself = at_itself p (end arc) n in
    omega (arith, more, one, split, added, itself)

-- what every node's price being 1 shows
count_all : (arcs : List Arc) (counts : List ℕ) → priced (λ arc. arc.head) (λ s. 1) arcs counts ≡ priced (λ arc. arc.tail) (λ s. 1) arcs counts
unfolding priced
count_all [] counts = refl
count_all (arc ∷ arcs) [] = refl
count_all (arc ∷ arcs) (n ∷ counts) = let more = count_all arcs counts in omega (arith, more)

-- nothing is lost: what holds at each other node holds at the root
pub conserve_at_root : (arcs : List Arc) (counts : List ℕ) → Conserve arcs counts → inflow arcs counts root ≡ outflow arcs counts root
unfolding sum_to
conserve_at_root arcs counts conserve =
    let k = above (λ arc. arc.head) arcs + above (λ arc. arc.tail) arcs in
    let into = priced_by_node (suc k) (λ arc. arc.head) (λ s. 1) arcs counts (omega arith) in
    let out = priced_by_node (suc k) (λ arc. arc.tail) (λ s. 1) arcs counts (omega arith) in
    let others = sum_to-eq k (λ s. 1 * inflow arcs counts (suc s)) (λ s. 1 * outflow arcs counts (suc s))
    (λ s. ap (λ n. 1 * n) (conserve (suc s) (λ e. omega (arith, e)))) in
    omega (arith, count_all arcs counts, into, out, others)

pub conserve_at_each : (arcs : List Arc) (counts : List ℕ) → Conserve arcs counts → (node : ℕ) → inflow arcs counts node ≡ outflow arcs counts node
conserve_at_each arcs counts conserve node =
    elim (cases_eq node root) [
      | inl e ↦ rw e (conserve_at_root arcs counts conserve)
      | inr apart ↦ conserve node apart
    ]

-- a circulation is worth the same by the prices at the heads as by those at the tails
pub priced_same : (arcs : List Arc) (counts : List ℕ) (p : ℕ → ℕ) → Conserve arcs counts
    → priced (λ arc. arc.head) p arcs counts ≡ priced (λ arc. arc.tail) p arcs counts
priced_same arcs counts p conserve =
    let k = above (λ arc. arc.head) arcs + above (λ arc. arc.tail) arcs in
    let into = priced_by_node k (λ arc. arc.head) p arcs counts (omega arith) in
    let out = priced_by_node k (λ arc. arc.tail) p arcs counts (omega arith) in
    let same = sum_to-eq k (λ s. p s * inflow arcs counts s) (λ s. p s * outflow arcs counts s)
    (λ s. ap (λ n. p s * n) (conserve_at_each arcs counts conserve s)) in
    omega (arith, into, out, same)
