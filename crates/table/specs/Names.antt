-- Literals as numbers that index an array: a plain literal is its fact, a negated one is the bound on facts more. Assumes nothing.
use Rattle.std.specs.Prelude.{cond, ℕ, ◌+◌, ◌-◌, leb}
use Rattle.base.specs.Bounds.{max_atoms}
use Rattle.format.specs.Book.{Literal}

unfoldable pub literal_named : ℕ → Literal
literal_named h = record { atom = cond (leb max_atoms h) (h - max_atoms) h; negated = leb max_atoms h }

unfoldable pub name_of : Literal → ℕ
name_of l = cond l.negated (l.atom + max_atoms) l.atom
