mod PlacedUses
