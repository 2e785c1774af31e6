-- A plain table's run of records, and its nodes.
use Rattle.std.proofs.Common.{◌≡◌, ℕ, ◌+◌, ◌-◌, ◌<◌, ◌≤◌, min, List, [], ◌∷◌, ◌++◌, reverse, length, get_or, take, drop, set, replicate, Ok, Err, sym, refl, ap, ◌∙◌, inl, inr, append_assoc, arith}
use mathlib.Core.List.{reverse-cons}
use Rattle.std.proofs.lemmas.Bool.Decides.{eqb_tells}
use Rattle.std.proofs.lemmas.List.{reverse-append, reverse-reverse, length-reverse, length-append, length-replicate, length-drop, length-take-le, length-set, take-append-drop, take_at, take-take, take_more_set, drop_at, drop-drop, drop-set-lt, drop-append-le, drop-replicate, replicate-append-replicate, get_or_at, get_or_append_left, get_or-take}
use borrow.Rule.Slice.PartMut.{put_mid}
use Rattle.diagram.specs.declared.Node.{Node}
use Rattle.diagram.specs.Nodes.{Issued, node_at, At, Fit, WellFormed}
use Rattle.diagram.proofs.Growth.{well_formed_kept}
use Rattle.table.specs.declared.faults.Reason.TheVariants.{Full}
use Rattle.table.specs.Faults.{fault}
use Rattle.table.specs.Model.{Absent, Inserted, oldest}
use Rattle.table.specs.Held.{held_length}
use Rattle.table.specs.Plain.{Cleared, blank, zeros, plain_size, plain_nodes, plain_rest}

node_read : (ns : List Node) (h : ℕ) → 2 ≤ h → Issued ns h → node_at ns h ≡ get_or (reverse ns) (h - 2) blank
unfolding node_at
node_read [] h p q = absurd (omega arith)
node_read (n ∷ ns) h p q =
    let l = length-reverse ns in
    let r = ap (λ os. get_or os (h - 2) blank) (reverse-cons n ns) in
    elim (eqb_tells h (length ns + 2)) [
      | inl e ↦ rw e.0 (sym (r ∙ get_or_at (reverse ns) n [] blank (h - 2) (omega (arith, e.1))))
      | inr e ↦
          let i : Issued ns h = omega (arith, e.1) in
          rw e.0 (node_read ns h p i ∙ sym (r ∙ get_or_append_left (reverse ns) (n ∷ []) blank (h - 2) (omega arith)))
    ]

module _ (run : List Node) (held : ℕ) (room : held ≤ plain_size run) where
  read_held : (h : ℕ) → 2 ≤ h → h < held + 2 → node_at (plain_nodes held run) h ≡ get_or run (h - 2) blank
  read_held h p q =
      let l = held_length run held room in
      let k : h - 2 < held = omega arith in
      node_read (plain_nodes held run) h p (omega arith)
      ∙ ap (λ os. get_or os (h - 2) blank) (reverse-reverse (take held run))
      ∙ get_or-take held run (h - 2) blank k

  pub at_held : (h : ℕ) (n : Node) → 2 ≤ h → h < held + 2 → get_or run (h - 2) blank ≡ n → At (plain_nodes held run) h n
  at_held h n p q e = let l = held_length run held room in record { issued = omega arith; two = p; is = read_held h p q ∙ e }

  pub absent_held : (n : Node) → ((k : ℕ) → k < held → get_or run k blank ≡ n → ⊥) → Absent (plain_nodes held run) n
  absent_held n p h a =
      let l = held_length run held room in
      let i : h < held + 2 = omega (arith, a.issued) in
      p (h - 2) (omega (arith, a.two)) (sym (read_held h a.two i) ∙ a.is)

  -- Outcomes that leave the run as it is, and that of entering.
  pub found_held : (n : Node) (i h : ℕ) → Fit (plain_nodes held run) n → i < held → get_or run i blank ≡ n → h ≡ i + 2 → Inserted (plain_size run) (plain_nodes held run) n (Ok h) (plain_nodes held run)
  found_held n i h f l e x =
      let z : h - 2 ≡ i = omega arith in
      let a = at_held h n (omega arith) (omega arith) (ap (λ k. get_or run k blank) z ∙ e) in
      record { outcome = (f, inl (record { at = a; kept = refl })) }

  pub full_held : (n : Node) (s : ℕ) → Fit (plain_nodes held run) n → Absent (plain_nodes held run) n → plain_size run ≤ held → s ≡ plain_size run → Inserted (plain_size run) (plain_nodes held run) n (Err (fault Full s)) (plain_nodes held run)
  full_held n s f a no_room e =
      let l = held_length run held room in
      record { outcome = inr (record { fit = f; absent = a; full = omega arith; is = ap (fault Full) e; kept = refl }) }

  pub entered_held : (n : Node) (h : ℕ) (new : List Node) → Fit (plain_nodes held run) n → Absent (plain_nodes held run) n → held < plain_size run → h ≡ held + 2 → new ≡ n ∷ plain_nodes held run → Inserted (plain_size run) (plain_nodes held run) n (Ok h) new
  entered_held n h new f a less e x = let l = held_length run held room in record { outcome = (f, inr (record { absent = a; room = omega arith; handle = omega arith; added = x })) }

-- After a node was entered.
module _ (run : List Node) (held : ℕ) (n : Node) (run' : List Node) (less : held < plain_size run) (put : run' ≡ set run held n) where
  pub size_entered : plain_size run' ≡ plain_size run
  size_entered = ap (λ k. min k 65000) (ap length put ∙ length-set run held n)

  pub rest_entered : plain_rest run' ≡ plain_rest run
  rest_entered = ap (λ k. drop k run') size_entered ∙ ap (drop (plain_size run)) put ∙ drop-set-lt (plain_size run) run held n less

  pub nodes_entered : plain_nodes (held + 1) run' ≡ n ∷ plain_nodes held run
  nodes_entered = ap reverse (ap (take (held + 1)) put ∙ take_more_set run held n (omega arith)) ∙ reverse-append (take held run) (n ∷ [])

  pub cleared_entered : Cleared held run → Cleared (held + 1) run'
  cleared_entered c =
      let size = plain_size run in
      let l : 1 ≤ length (replicate (size - held) blank) = omega (arith, length-replicate (size - held) blank) in
      let k : held < held + 1 = omega arith in
      ap (drop (held + 1)) put
      ∙ drop-set-lt (held + 1) run held n k
      ∙ sym (drop-drop 1 held run)
      ∙ ap (drop 1) c
      ∙ drop-append-le 1 (replicate (size - held) blank) (plain_rest run) l
      ∙ ap (λ x. x ++ plain_rest run) (drop-replicate 1 (size - held) blank ∙ ap (λ m. replicate m blank) (omega arith))
      ∙ sym (ap (λ s. zeros s (held + 1) (plain_rest run')) size_entered ∙ ap (zeros size (held + 1)) rest_entered)

-- A part of a run, filled with the default record.
blanks : (b : Node) (part : List Node) (k n : ℕ) → (b.level ≡ 0) × ((b.low ≡ 0) × (b.high ≡ 0)) → part ≡ replicate k b → k ≡ n → part ≡ replicate n blank
blanks b part k n e f l =
    let is : b ≡ blank = λ i. record { level = e.0 i; low = e.1.0 i; high = e.1.1 i } in
    f ∙ ap (λ m. replicate m b) l ∙ ap (replicate n) is

pub filled : (run : List Node) (m held : ℕ) (b : Node) (part : List Node) → m ≤ held → held ≤ length run → (b.level ≡ 0) × ((b.low ≡ 0) × (b.high ≡ 0)) → part ≡ replicate (length (take (held - m) (drop m run))) b → put_mid m (held - m) run part ≡ take m run ++ zeros held m (drop held run)
filled run m held b part p q e f =
    let d = length-drop m run in
    let l = length-take-le (held - m) (drop m run) (omega arith) in
    let s : m + (held - m) ≡ held = omega arith in
    ap (λ x. take m run ++ (x ++ drop (held - m) (drop m run))) (blanks b part _ (held - m) e f l)
    ∙ ap (λ x. take m run ++ (replicate (held - m) blank ++ x)) (drop-drop (held - m) m run ∙ ap (λ k. drop k run) s)

-- After the nodes past m were taken back.
module _ (run : List Node) (m held : ℕ) (run' : List Node) (room : held ≤ plain_size run) (less : m ≤ held) (zeroed : run' ≡ take m run ++ zeros held m (drop held run)) where
  front : length (take m run) ≡ m
  front = length-take-le m run (omega arith)

  pub size_cut : plain_size run' ≡ plain_size run
  size_cut =
      let a = length-append (take m run) (zeros held m (drop held run)) in
      let b = length-append (replicate (held - m) blank) (drop held run) in
      let c = length-replicate (held - m) blank in
      let d = length-drop held run in
      let f = front in
      let e : length run' ≡ length run = ap length zeroed ∙ omega arith in
      ap (λ k. min k 65000) e

  front_cut : take m run' ≡ take m run
  front_cut = ap (take m) zeroed ∙ take_at (take m run) (zeros held m (drop held run)) m front

  pub zeros_cut : Cleared held run → drop m run' ≡ zeros (plain_size run) m (plain_rest run)
  zeros_cut c =
      let size = plain_size run in
      ap (drop m) zeroed
      ∙ drop_at (take m run) (zeros held m (drop held run)) m front
      ∙ ap (λ x. replicate (held - m) blank ++ x) c
      ∙ sym (append_assoc (replicate (held - m) blank) (replicate (size - held) blank) (plain_rest run))
      ∙ ap (λ x. x ++ plain_rest run) (replicate-append-replicate (held - m) (size - held) blank ∙ ap (λ k. replicate k blank) (omega arith))

  pub rest_cut : Cleared held run → plain_rest run' ≡ plain_rest run
  rest_cut c =
      let size = plain_size run in
      let e : size ≡ m + (size - m) = omega arith in
      ap (λ k. drop k run') (size_cut ∙ e)
      ∙ sym (drop-drop (size - m) m run')
      ∙ ap (drop (size - m)) (zeros_cut c)
      ∙ drop_at (replicate (size - m) blank) (plain_rest run) (size - m) (length-replicate (size - m) blank)

  pub cleared_cut : Cleared held run → Cleared m run'
  cleared_cut c = zeros_cut c ∙ sym (ap (λ s. zeros s m (plain_rest run')) size_cut ∙ ap (zeros (plain_size run) m) (rest_cut c))

  before : plain_nodes held run ≡ reverse (drop m (take held run)) ++ plain_nodes m run'
  before =
      ap reverse (sym (take-append-drop m (take held run)))
      ∙ reverse-append (take m (take held run)) (drop m (take held run))
      ∙ ap (λ os. reverse (drop m (take held run)) ++ reverse os) (take-take m held run less ∙ sym front_cut)

  pub formed_cut : WellFormed (plain_nodes held run) → WellFormed (plain_nodes m run')
  formed_cut w = well_formed_kept (reverse (drop m (take held run)), before) w

  pub nodes_cut : plain_nodes m run' ≡ oldest m (plain_nodes held run)
  nodes_cut =
      let ns = plain_nodes held run in
      let l = held_length run held room in
      let a = length-reverse (drop m (take held run)) in
      let b = length-drop m (take held run) in
      let d = length-take-le held run (omega arith) in
      sym (ap (drop (length ns - m)) before ∙ drop_at (reverse (drop m (take held run))) (plain_nodes m run') (length ns - m) (omega arith))
