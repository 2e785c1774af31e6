-- Remembered results that are right stay so while the nodes grow. Assumes nothing.
use Rattle.std.proofs.Common.{◌≡◌, ℕ, ◌-◌, min, Bool, ◌⊎◌, List, Ok, sym, ap, ◌∙◌, subst, inl, inr, arith}
use Rattle.diagram.specs.declared.Node.{Node}
use Rattle.diagram.specs.Functions.{Fun}
use Rattle.diagram.specs.Nodes.{Issued, meaning, level_of, Extends, Stands}
use Rattle.diagram.specs.Counts.{HasHandle}
use Rattle.diagram.proofs.Growth.{issued_kept, meaning_kept, level_kept, stands_kept, has_handle_kept}
use Rattle.implicant.specs.Variables.{condition, ArePrimes, PrimeRestrictions}
use Rattle.walk.specs.declared.ops.Op.{Op}
use Rattle.walk.specs.declared.cache.Task.{Task}
use Rattle.walk.specs.declared.cache.Task.TheVariants.{Join, Restrict, Primes}
use Rattle.walk.specs.declared.cache.Entry.{Entry}
use Rattle.walk.specs.Ops.{joined, cofactor}
use Rattle.walk.specs.Places.{told}
use Rattle.walk.specs.Entries.{RightTask, Right}
use Rattle.walk.specs.Outcomes.{Walked, PrimeSet, PrimesWalked}

-- What a task's function is called when the nodes have grown.
module _ {a b : List Node} (x : Extends a b) where
  pub joined_kept : (op : Op) (f g : ℕ) → Issued a f → Issued a g → joined op (meaning b f) (meaning b g) ≡ joined op (meaning a f) (meaning a g)
  joined_kept op f g p q = ap (λ (u : Fun). joined op u (meaning b g)) (meaning_kept x f p) ∙ ap (joined op (meaning a f)) (meaning_kept x g q)

  pub cofactor_kept : (l : ℕ) (v : Bool) (f : ℕ) → Issued a f → cofactor l v (meaning b f) ≡ cofactor l v (meaning a f)
  cofactor_kept l v f p = ap (cofactor l v) (meaning_kept x f p)

  -- A result that stands in b, where the task was asked in a.
  joins_now : (op : Op) (f g : ℕ) {h : ℕ} → Issued a f → Issued a g → Stands b (min (level_of a f) (level_of a g)) h (joined op (meaning a f) (meaning a g)) → RightTask b (Join op f g) h
  joins_now op f g p q s = (
    issued_kept x f p,
    issued_kept x g q,
    record { issued = s.issued; level = omega (arith, s.level, level_kept x f p, level_kept x g q); value = s.value ∙ sym (joined_kept op f g p q) },
  )

  restricts_now : (f l : ℕ) (v : Bool) {h : ℕ} → Issued a f → Stands b (level_of a f) h (cofactor l v (meaning a f)) → RightTask b (Restrict f l v) h
  restricts_now f l v p s = (issued_kept x f p, record { issued = s.issued; level = omega (arith, s.level, level_kept x f p); value = s.value ∙ sym (cofactor_kept l v f p) })

  set_kept : {n k h : ℕ} {u : Fun} → PrimeSet n k u a h → PrimeSet n k u b h
  set_kept {n} {k} {h} {u} s = record {
    issued = issued_kept x h s.issued;
    level = omega (arith, s.level, level_kept x h s.issued);
    primes = subst (λ (v : Fun). ArePrimes n k (condition n k u) v) (sym (meaning_kept x h s.issued)) s.primes;
  }

  -- A set of primes in b, whose working functions all have handles there, where the task was asked in a.
  primes_now : (f k : ℕ) {h : ℕ} → Issued a f → PrimeSet (12 - k) k (meaning a f) b h
      → ((g : Fun) → PrimeRestrictions (12 - k) k (condition (12 - k) k (meaning a f)) g → HasHandle b g) → RightTask b (Primes f k) h
  primes_now f k {h} p s all =
      subst (λ (u : Fun). Issued b f × PrimeSet (12 - k) k u b h × ((g : Fun) → PrimeRestrictions (12 - k) k (condition (12 - k) k u) g → HasHandle b g))
      (sym (meaning_kept x f p))
      (issued_kept x f p, s, all)

  task_kept : (t : Task) (h : ℕ) → RightTask a t h → RightTask b t h
  task_kept (Join op f g) h r = joins_now op f g r.0 r.1 (stands_kept x (omega arith) r.2)
  task_kept (Restrict f l v) h r = restricts_now f l v r.0 (stands_kept x (omega arith) r.1)
  task_kept (Primes f k) h r = primes_now f k r.0 (set_kept r.1) (λ g z. has_handle_kept x (r.2 g z))

  pub right_kept : {P : Entry → Type 0} → Right a P → Right b P
  right_kept r e held = task_kept e.task e.result (r e held)

-- Nothing remembered is right.
pub right_none : (ns : List Node) {P : Entry → Type 0} → ((e : Entry) → P e → ⊥) → Right ns P
right_none ns none e held = absurd (none e held)

-- One more right result.
right_told : {ns : List Node} (t : Task) {h : ℕ} {P Q : Entry → Type 0} → RightTask ns t h → Right ns P → ((e : Entry) → Q e → P e ⊎ (e ≡ told t h)) → Right ns Q
right_told {ns} t new r more e held = elim (more e held) [ inl z ↦ r e z | inr z ↦ subst (λ (y : Entry). RightTask ns y.task y.result) (sym z) new ]

module _ {N : ℕ} {a b : List Node} {P Q : Entry → Type 0} where
  pub join_told : (op : Op) (f g : ℕ) {h : ℕ} → Issued a f → Issued a g → Walked N a (min (level_of a f) (level_of a g)) (joined op (meaning a f) (meaning a g)) (Ok h) b
      → Right b P → ((e : Entry) → Q e → P e ⊎ (e ≡ told (Join op f g) h)) → Right b Q
  join_told op f g p q w r more = right_told (Join op f g) (joins_now w.outcome.grows.extends op f g p q w.outcome.stands) r more

  pub restrict_told : (f l : ℕ) (v : Bool) {h : ℕ} → Issued a f → Walked N a (level_of a f) (cofactor l v (meaning a f)) (Ok h) b
      → Right b P → ((e : Entry) → Q e → P e ⊎ (e ≡ told (Restrict f l v) h)) → Right b Q
  restrict_told f l v p w r more = right_told (Restrict f l v) (restricts_now w.outcome.grows.extends f l v p w.outcome.stands) r more

  pub primes_told : (f k : ℕ) {h : ℕ} → Issued a f → PrimesWalked N (12 - k) k (meaning a f) a (Ok h) b
      → Right b P → ((e : Entry) → Q e → P e ⊎ (e ≡ told (Primes f k) h)) → Right b Q
  primes_told f k p w r more = right_told (Primes f k) (primes_now w.outcome.grants.grows.extends f k p w.outcome.set w.outcome.grants.all) r more
