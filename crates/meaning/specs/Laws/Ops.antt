-- A fact about ops is shown of the lines of the table, from 0 to 12, and of every number past them.
use Rattle.std.specs.Prelude.{ℕ, zero, suc}

-- The n-th op past the table.
abbrev pub beyond : ℕ → ℕ
beyond n = suc (suc (suc (suc (suc (suc (suc (suc (suc (suc (suc (suc (suc n))))))))))))

pub by_op : (Q : ℕ → Type 0) → Q 0 → Q 1 → Q 2 → Q 3 → Q 4 → Q 5 → Q 6 → Q 7 → Q 8 → Q 9 → Q 10 → Q 11 → Q 12 → ((n : ℕ) → Q (beyond n)) → (n : ℕ) → Q n
by_op Q l0 l1 l2 l3 l4 l5 l6 l7 l8 l9 l10 l11 l12 past zero = l0
by_op Q l0 l1 l2 l3 l4 l5 l6 l7 l8 l9 l10 l11 l12 past (suc zero) = l1
by_op Q l0 l1 l2 l3 l4 l5 l6 l7 l8 l9 l10 l11 l12 past (suc (suc zero)) = l2
by_op Q l0 l1 l2 l3 l4 l5 l6 l7 l8 l9 l10 l11 l12 past (suc (suc (suc zero))) = l3
by_op Q l0 l1 l2 l3 l4 l5 l6 l7 l8 l9 l10 l11 l12 past (suc (suc (suc (suc zero)))) = l4
by_op Q l0 l1 l2 l3 l4 l5 l6 l7 l8 l9 l10 l11 l12 past (suc (suc (suc (suc (suc zero))))) = l5
by_op Q l0 l1 l2 l3 l4 l5 l6 l7 l8 l9 l10 l11 l12 past (suc (suc (suc (suc (suc (suc zero)))))) = l6
by_op Q l0 l1 l2 l3 l4 l5 l6 l7 l8 l9 l10 l11 l12 past (suc (suc (suc (suc (suc (suc (suc zero))))))) = l7
by_op Q l0 l1 l2 l3 l4 l5 l6 l7 l8 l9 l10 l11 l12 past (suc (suc (suc (suc (suc (suc (suc (suc zero)))))))) = l8
by_op Q l0 l1 l2 l3 l4 l5 l6 l7 l8 l9 l10 l11 l12 past (suc (suc (suc (suc (suc (suc (suc (suc (suc zero))))))))) = l9
by_op Q l0 l1 l2 l3 l4 l5 l6 l7 l8 l9 l10 l11 l12 past (suc (suc (suc (suc (suc (suc (suc (suc (suc (suc zero)))))))))) = l10
by_op Q l0 l1 l2 l3 l4 l5 l6 l7 l8 l9 l10 l11 l12 past (suc (suc (suc (suc (suc (suc (suc (suc (suc (suc (suc zero))))))))))) = l11
by_op Q l0 l1 l2 l3 l4 l5 l6 l7 l8 l9 l10 l11 l12 past (suc (suc (suc (suc (suc (suc (suc (suc (suc (suc (suc (suc zero)))))))))))) = l12
by_op Q l0 l1 l2 l3 l4 l5 l6 l7 l8 l9 l10 l11 l12 past (suc (suc (suc (suc (suc (suc (suc (suc (suc (suc (suc (suc (suc n))))))))))))) = past n
