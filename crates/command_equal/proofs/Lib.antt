mod Comparisons
