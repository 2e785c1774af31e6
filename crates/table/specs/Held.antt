-- What holds of every plain table, by its ghost fields: the proofs of the trait's laws, which only a file of specs/ can hand to an impl.
use Rattle.std.proofs.Common.{◌≡◌, ℕ, ◌≤◌, List, ◌++◌, length, take, sym, ap, ◌∙◌, arith}
use Rattle.std.proofs.lemmas.List.{reverse-reverse, length-reverse, length-take-le, take-append-drop}
use Rattle.diagram.specs.declared.Node.{Node}
use Rattle.diagram.specs.Nodes.{WellFormed}
use Rattle.table.specs.Model.{Sound}
use Rattle.table.specs.Plain.{Cleared, zeros, plain_size, plain_nodes, plain_rest, plain_content}
use Rattle.table.specs.Props.{formed_out, cleared_out}

module _ (run : List Node) (held : ℕ) (room : held ≤ plain_size run) where
  pub held_length : length (plain_nodes held run) ≡ held
  held_length = length-reverse (take held run) ∙ length-take-le held run (omega arith)

  pub sound_held : ∥ WellFormed (plain_nodes held run) ∥₁ → Sound (plain_size run) (plain_nodes held run)
  sound_held w = let l = held_length in record { small = omega arith; room = omega arith; formed = formed_out held run w }

  pub memory_held : ∥ Cleared held run ∥₁ → run ≡ plain_content (plain_size run) (plain_nodes held run) (plain_rest run)
  memory_held c =
      sym (take-append-drop held run)
      ∙ ap (λ x. take held run ++ x) (cleared_out held run c ∙ ap (λ k. zeros (plain_size run) k (plain_rest run)) (sym held_length))
      ∙ ap (λ x. x ++ zeros (plain_size run) (length (plain_nodes held run)) (plain_rest run)) (sym (reverse-reverse (take held run)))
